-- The pairs of ends that parameters keep are those of their case.
use Rattle.std.proofs.Common.{◌≡◌, ℕ, ◌<◌, ◌≤◌, ap, sym, ◌∙◌, refl, arith, Bool, List, length, get_or, map, take, length-take}
use Rattle.std.proofs.lemmas.List.{get_or-take, get_or-map}
use Rattle.log_laws.specs.declared.iv.Iv.{Iv}
use Rattle.log_laws.specs.Interval.{ends_of}
use Rattle.log_laws.specs.Between.{Ends}
use Rattle.case_types.specs.declared.cases.Case.{Case}
use Rattle.case_types.specs.Arithmetic.Numbers.{enclosures_of}
use Rattle.case_types.specs.Arithmetic.Tables.{ends_at, no_ends}
use Rattle.case_types.specs.Energy.Instances.{Enclosures, pair_place}
use Rattle.pr_params.specs.declared.numbers.Params.{Params}
use Rattle.cert_format.specs.declared.heads.CertParams.{CertParams}
use Rattle.log_laws.specs.Sums.{all_below}
use Rattle.cert_check.specs.Tests.{are_same}

pub at : (vs : List Iv) (i : ℕ) (d : Iv) → i < length vs → ends_of (get_or vs i d) ≡ ends_at (map ends_of vs) i
at vs i d inside = sym (get_or-map ends_of vs i d no_ends inside)

pub temperature_root : (p : Params) (i : ℕ) (d : Iv) → i < p.case.n → p.case.n ≤ length p.t → ends_of (get_or p.t i d) ≡ ends_at (enclosures_of p.case).temperature_roots i
temperature_root p i d h k =
    ap ends_of (sym (get_or-take p.case.n p.t i d h)) ∙ sym (get_or-map ends_of (take p.case.n p.t) i d no_ends (simp length-take (omega (arith, h, k))))
    ∙ ap (λ (e : Enclosures). ends_at e.temperature_roots i) p.printed

pub pressure_root : (p : Params) (i : ℕ) (d : Iv) → i < length p.q → ends_of (get_or p.q i d) ≡ ends_at (enclosures_of p.case).pressure_roots i
pressure_root p i d h = at p.q i d h ∙ ap (λ (e : Enclosures). ends_at e.pressure_roots i) p.printed

-- ---- the tests of the stated pairs, one by one
abbrev pub is_stated_temperature : CertParams → ℕ → Bool
is_stated_temperature p i = are_same (ends_at (map ends_of p.t) i) (ends_at (enclosures_of p.case).temperature_roots i)

abbrev pub is_stated_pressure : CertParams → ℕ → ℕ → Bool
is_stated_pressure p j i = are_same (ends_at (map ends_of p.q) (pair_place i j)) (ends_at (enclosures_of p.case).pressure_roots (pair_place i j))

abbrev pub are_stated_pressures : CertParams → ℕ → Bool
are_stated_pressures p j = all_below j (is_stated_pressure p j)

alike : (a b v w : Ends) → a ≡ v → b ≡ w → are_same a b ≡ are_same v w
alike a b v w e f = rw (e, f) refl

pub temperature_same : (stated : CertParams) (p : Params) (i : ℕ) (d e : Iv) → p.case ≡ stated.case → i < stated.case.n → 4 ≤ length stated.t → 4 ≤ length p.t
    → are_same (ends_of (get_or stated.t i d)) (ends_of (get_or p.t i e)) ≡ is_stated_temperature stated i
temperature_same stated p i d e same live long long' =
    let few = stated.case.few in
    let few' = p.case.few in
    let live' : i < p.case.n = rw same live in
    alike (ends_of (get_or stated.t i d)) (ends_of (get_or p.t i e)) (ends_at (map ends_of stated.t) i) (ends_at (enclosures_of p.case).temperature_roots i)
    (at stated.t i d (omega (arith, live, few, long))) (temperature_root p i e live' (omega (arith, few', long')))
    ∙ ap (λ (c : Case). are_same (ends_at (map ends_of stated.t) i) (ends_at (enclosures_of c).temperature_roots i)) same

pub pressure_same : (stated : CertParams) (p : Params) (i j place : ℕ) (d e : Iv) → p.case ≡ stated.case → place ≡ pair_place i j → place < 6 → 6 ≤ length stated.q → 6 ≤ length p.q
    → are_same (ends_of (get_or stated.q place d)) (ends_of (get_or p.q place e)) ≡ is_stated_pressure stated j i
pressure_same stated p i j place d e same is inside long long' =
    alike (ends_of (get_or stated.q place d)) (ends_of (get_or p.q place e)) (ends_at (map ends_of stated.q) place) (ends_at (enclosures_of p.case).pressure_roots place)
    (at stated.q place d (omega (arith, inside, long))) (pressure_root p place e (omega (arith, inside, long')))
    ∙ ap (λ (c : Case). are_same (ends_at (map ends_of stated.q) place) (ends_at (enclosures_of c).pressure_roots place)) same
    ∙ ap (λ (k : ℕ). are_same (ends_at (map ends_of stated.q) k) (ends_at (enclosures_of stated.case).pressure_roots k)) is
