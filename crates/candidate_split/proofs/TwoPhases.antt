-- A vapour and a liquid, each of which stands where it has a share: they are phases, and add up to the feed.
use Rattle.std.proofs.Common.{◌≡◌, ℕ, zero, suc, ◌+◌, ◌*◌, ◌^◌, ◌<◌, ◌≤◌, Bool, true, false, List, [], ◌∷◌, ◌++◌, length, map, slice_index, refl, ◌∙◌, arith}
use Rattle.std.specs.Prelude.{IsTrue, nat_le, nat_lt}
use Rattle.std.specs.List.{All, list_all}
use Rattle.std.proofs.Math.Nat.{mul-le-mul}
use Rattle.std.proofs.lemmas.Bool.{leb-true, le-leb, lt-ltb, ltb-true, ltb-false}
use Rattle.std.proofs.lemmas.List.Elements.{All-cons, All-nil}
use Rattle.log_laws.specs.Sums.{sum_below}
use Rattle.log_laws.proofs.Exports.{all_below-at, le-sum_below, sum_below-add, sum_below-fewer, sum_below-scaled_same}
use Rattle.case_types.specs.declared.cases.Case.{Case}
use Rattle.case_types.specs.declared.phases.Phase.{Phase}
use Rattle.case_types.specs.declared.phases.Split.{Split}
use Rattle.case_types.specs.Ranges.{are_parts, is_packing}
use Rattle.case_types.specs.Energy.Divisions.{Divides, IsState, division_of, parts_in, state_of}
use Rattle.case_types.proofs.Exports.{state_of-is_state, total_positive}
use Rattle.split_energies.specs.Feeds.{feed_part}
use Rattle.candidate_split.specs.TwoPhases.{IsComposition, IsTwoPhase, fits_feed, liquid_part, liquid_phase, present, vapour_and_liquid, vapour_part, vapour_phase}
use Rattle.candidate_split.specs.Phases.{IsCounted}
use Rattle.candidate_split.proofs.Phases.{sum_small}
use Rattle.candidate_split.proofs.FeedParts.{feed_small, vapour_small}

-- ---- phases that stand where they have a share
pub record IsFine (n : ℕ) (f : Phase) : Type 0 where
  pub parts : IsTrue (are_parts f.parts)
  pub packing : IsTrue (is_packing f.packing)
  pub state : IsState n (state_of f)

pub record AreFine (n : ℕ) (fs : List Phase) : Type 0 where
  pub some : 1 ≤ length fs
  pub parts : IsTrue (list_all (λ (f : Phase). are_parts f.parts) fs)
  pub packings : IsTrue (list_all (λ (f : Phase). is_packing f.packing) fs)
  pub states : All (IsState n) (map state_of fs)

alone : (n : ℕ) (f : Phase) → IsFine n f → AreFine n (f ∷ [])
alone n f h = record {
  some = omega arith;
  parts = rw h.parts refl;
  packings = rw h.packing refl;
  states = All-cons (IsState n) (state_of f) [] h.state (All-nil (IsState n));
}

both : (n : ℕ) (f g : Phase) → IsFine n f → IsFine n g → AreFine n (f ∷ g ∷ [])
both n f g h k = record {
  some = omega arith;
  parts = rw (h.parts, k.parts) refl;
  packings = rw (h.packing, k.packing) refl;
  states = All-cons (IsState n) (state_of f) (state_of g ∷ []) h.state (All-cons (IsState n) (state_of g) [] k.state (All-nil (IsState n)));
}

fine_phases : (n : ℕ) (a b : Bool) (f g : Phase) → (a ≡ true → IsFine n f) → (b ≡ true → IsFine n g) → (a ≡ false → b ≡ true) → AreFine n (present a f ++ present b g)
fine_phases n true true f g h k e = both n f g (h refl) (k refl)
fine_phases n true false f g h k e = alone n f (h refl)
fine_phases n false true f g h k e = alone n g (k refl)
fine_phases n false false f g h k e = absurd (cc (e refl))

parts_together : (i : ℕ) (a b : Bool) (f g : Phase) → (a ≡ false → slice_index f.parts i ≡ 0) → (b ≡ false → slice_index g.parts i ≡ 0) →
    parts_in (map state_of (present a f ++ present b g)) i ≡ slice_index f.parts i + slice_index g.parts i
parts_together i true true f g h k = omega arith
parts_together i true false f g h k = let none = k refl in omega (arith, none)
parts_together i false true f g h k = let none = h refl in omega (arith, none)
parts_together i false false f g h k = let none = h refl in let nil = k refl in omega (arith, none, nil)

-- ---- four parts as a list
listed : (f : ℕ → ℕ) (i : ℕ) → i < 4 → slice_index (f 0 ∷ f 1 ∷ f 2 ∷ f 3 ∷ []) i ≡ f i
listed f zero h = refl
listed f (suc zero) h = refl
listed f (suc (suc zero)) h = refl
listed f (suc (suc (suc zero))) h = refl
listed f (suc (suc (suc (suc i)))) h = absurd (omega (arith, h))

phase_of : (n : ℕ) (f : ℕ → ℕ) (y : ℕ) → n ≤ 4 → ((i : ℕ) → f i ≤ 2 ^ 60) → 1 ≤ sum_below n f → 1 ≤ y → y < 2 ^ 40 →
    IsFine n (record { parts = f 0 ∷ f 1 ∷ f 2 ∷ f 3 ∷ []; packing = y })
phase_of n f y few small some packed inside = record {
  parts = rw (below 0, below 1, below 2, below 3, many) refl;
  packing = is;
  state = state_of-is_state n (record { parts = f 0 ∷ f 1 ∷ f 2 ∷ f 3 ∷ []; packing = y }) is (omega (arith, same, some));
}
  where
    below : (i : ℕ) → nat_lt (f i) (2 ^ 104) ≡ true
    below i = let s = small i in lt-ltb (f i) (2 ^ 104) (omega (arith, s))

    is : is_packing y ≡ true
    is = rw (le-leb 1 y packed, lt-ltb y (2 ^ 40) inside) refl

    once : {a b : ℕ} → a ≡ b → 1 * a ≡ b * 1
    once e = omega (arith, e)

    same : sum_below n (slice_index (f 0 ∷ f 1 ∷ f 2 ∷ f 3 ∷ [])) * 1 ≡ sum_below n f * 1
    same = sum_below-scaled_same n 1 1 (slice_index (f 0 ∷ f 1 ∷ f 2 ∷ f 3 ∷ [])) f (λ i h. once (listed f i (omega (arith, h, few))))

    all : sum_below n f ≤ sum_below 4 f
    all = sum_below-fewer n 4 f few

    many : nat_le 1 (sum_below 4 f) ≡ true
    many = le-leb 1 (sum_below 4 f) (omega (arith, all, some))

-- ---- how many parts they have
vapour_sum : (c : Case) (v : ℕ) (y : List ℕ) → IsComposition c.n y → sum_below c.n (vapour_part c v y) ≡ 2 ^ 20 * (v * c.total)
vapour_sum c v y is =
    let same = sum_below-scaled_same c.n 1 (v * c.total) (vapour_part c v y) (slice_index y) (λ i h. turned v (slice_index y i) c.total) in
    let e = rw is.whole at same in
    omega (arith, e)
  where
    turned : (v y t : ℕ) → 1 * (v * y * t) ≡ y * (v * t)
    turned v y t = omega arith

-- vapour and liquid together have those of the feed
pub parts_add_up : (c : Case) (v : ℕ) (y : List ℕ) (i : ℕ) → IsTrue (fits_feed c v y) → i < c.n → vapour_part c v y i + liquid_part c v y i ≡ slice_index c.z i * 2 ^ 40
parts_add_up c v y i fits h =
    let room = leb-true (vapour_part c v y i) (feed_part c i * 2 ^ 40) (all_below-at c.n (λ i. nat_le (vapour_part c v y i) (feed_part c i * 2 ^ 40)) i h fits) in
    let fed : feed_part c i ≡ slice_index c.z i = rw (lt-ltb i c.n h) refl in
    omega (arith, room, fed)

liquid_sum : (c : Case) (v : ℕ) (y : List ℕ) → IsTrue (fits_feed c v y) →
    sum_below c.n (vapour_part c v y) + sum_below c.n (liquid_part c v y) ≡ c.total * 2 ^ 40
liquid_sum c v y fits =
    let all = sum_below-scaled_same c.n 1 (2 ^ 40) (λ i. vapour_part c v y i + liquid_part c v y i) (slice_index c.z) (λ i h. once (parts_add_up c v y i fits h)) in
    let added = sum_below-add c.n (vapour_part c v y) (liquid_part c v y) in
    let e = rw c.added at all in
    omega (arith, e, added)
  where
    once : {a b : ℕ} → a ≡ b → 1 * a ≡ b
    once e = omega (arith, e)

liquid_small : (c : Case) (v : ℕ) (y : List ℕ) (i : ℕ) → liquid_part c v y i ≤ 2 ^ 60
liquid_small c v y i = let s = feed_small c i in omega (arith, s)

vapour_some : (c : Case) (v : ℕ) (y : List ℕ) → IsComposition c.n y → 0 < v → 1 ≤ sum_below c.n (vapour_part c v y)
vapour_some c v y is h =
    let some : 1 * 1 ≤ v * c.total = mul-le-mul h (total_positive c) in
    let e = vapour_sum c v y is in
    omega (arith, some, e)

pub liquid_some : (c : Case) (v : ℕ) (y : List ℕ) → IsComposition c.n y → IsTrue (fits_feed c v y) → v < 2 ^ 20 → 1 ≤ sum_below c.n (liquid_part c v y)
liquid_some c v y is fits h =
    let less : suc v * c.total ≤ 2 ^ 20 * c.total = mul-le-mul h (le-self c.total) in
    let some = total_positive c in
    let e = vapour_sum c v y is in
    let f = liquid_sum c v y fits in
    omega (arith, less, some, e, f)
  where
    le-self : (n : ℕ) → n ≤ n
    le-self n = omega arith

-- ---- the split
pub fine_split : (c : Case) (v : ℕ) (y : List ℕ) (vapour liquid : ℕ) → v ≤ 2 ^ 20 → IsComposition c.n y → IsTrue (fits_feed c v y) →
    1 ≤ vapour → vapour < 2 ^ 40 → 1 ≤ liquid → liquid < 2 ^ 40 → AreFine c.n (vapour_and_liquid c v y vapour liquid)
fine_split c v y vapour liquid share is fits vp vi lp li =
    fine_phases c.n (nat_lt 0 v) (nat_lt v (2 ^ 20)) (vapour_phase c v y vapour) (liquid_phase c v y liquid)
    (λ e. phase_of c.n (vapour_part c v y) vapour c.few (λ i. vapour_small c v i y share is) (vapour_some c v y is (ltb-true 0 v e)) vp vi)
    (λ e. phase_of c.n (liquid_part c v y) liquid c.few (liquid_small c v y) (liquid_some c v y is fits (ltb-true v (2 ^ 20) e)) lp li)
    (λ e. let none = ltb-false 0 v e in lt-ltb v (2 ^ 20) (omega (arith, none)))

pub two_phases_divide : (c : Case) (v : ℕ) (y : List ℕ) (vapour liquid : ℕ) (s : Split) → v ≤ 2 ^ 20 → IsComposition c.n y → IsTrue (fits_feed c v y) →
    1 ≤ vapour → vapour < 2 ^ 40 → 1 ≤ liquid → liquid < 2 ^ 40 → IsTwoPhase c v y vapour liquid s → Divides c (division_of s)
two_phases_divide c v y vapour liquid s share is fits vp vi lp li two = record {
  positive = rw two.sum (let some = total_positive c in omega (arith, some));
  phases = rw two.phases (fine_split c v y vapour liquid share is fits vp vi lp li).states;
  adds_up = λ i h. rw (two.sum, two.phases) (
      let together = parts_together i (nat_lt 0 v) (nat_lt v (2 ^ 20)) (vapour_phase c v y vapour) (liquid_phase c v y liquid) (no_vapour i h) (no_liquid i h) in
      let of_vapour = listed (vapour_part c v y) i (omega (arith, h, c.few)) in
      let of_liquid = listed (liquid_part c v y) i (omega (arith, h, c.few)) in
      let whole = parts_add_up c v y i fits h in
      turned c.total _ (slice_index c.z i) (omega (arith, together, of_vapour, of_liquid, whole)));
}
  where
    turned : (t p z : ℕ) → p ≡ z * 2 ^ 40 → t * p ≡ z * (t * 2 ^ 40)
    turned t p z e = rw e (omega arith)

    no_vapour : (i : ℕ) → i < c.n → nat_lt 0 v ≡ false → slice_index (vapour_phase c v y vapour).parts i ≡ 0
    no_vapour i h e = let none : v ≡ 0 = (let l = ltb-false 0 v e in omega (arith, l)) in listed (vapour_part c v y) i (omega (arith, h, c.few)) ∙ rw none (omega arith)

    no_liquid : (i : ℕ) → i < c.n → nat_lt v (2 ^ 20) ≡ false → slice_index (liquid_phase c v y liquid).parts i ≡ 0
    no_liquid i h e =
        let full : v ≡ 2 ^ 20 = (let l = ltb-false v (2 ^ 20) e in omega (arith, l, share)) in
        let part = le-sum_below c.n i (liquid_part c v y) h in
        let a = vapour_sum c v y is in
        let b = liquid_sum c v y fits in
        let all : v * c.total ≡ 2 ^ 20 * c.total = rw full refl in
        listed (liquid_part c v y) i (omega (arith, h, c.few)) ∙ omega (arith, part, a, b, all)

-- ---- what the liquid has is enough, and not too much, to settle
pub liquid_counted : (c : Case) (v : ℕ) (y : List ℕ) (packing : ℕ) → IsComposition c.n y → IsTrue (fits_feed c v y) → v < 2 ^ 20 → 1 ≤ packing → packing < 2 ^ 40 →
    IsCounted c.n (liquid_phase c v y packing)
liquid_counted c v y packing is fits less some inside =
    let fine = phase_of c.n (liquid_part c v y) packing c.few (liquid_small c v y) (liquid_some c v y is fits less) some inside in
    record {
      some = fine.state.some;
      small = sum_small c.n (2 ^ 60) (liquid_phase c v y packing).parts c.few (omega arith) (λ i h. rw (listed (liquid_part c v y) i h) (liquid_small c v y i));
      packed = some;
      not_full = inside;
    }
