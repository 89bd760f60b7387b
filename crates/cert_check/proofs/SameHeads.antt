-- Heads that say the same agree in every live number.
use Rattle.std.proofs.Common.{◌≡◌, ℕ, zero, suc, ◌+◌, ◌<◌, List, [], ◌∷◌, length, take, map, refl, sym, ap, ◌∙◌, arith, inl, inr, ℤ, pos}
use Rattle.std.specs.Prelude.{slice_index, slice_index_or}
use Rattle.std.proofs.lemmas.Bool.{cases_lt}
use Rattle.log_laws.specs.Between.{Ends}
use Rattle.log_laws.specs.Interval.{ends_of}
use Rattle.case_types.specs.declared.cases.Case.{Case}
use Rattle.case_types.specs.declared.cases.Edition.{Edition}
use Rattle.case_types.specs.declared.cases.Edition.TheVariants.{Y1976, Y1978}
use Rattle.case_types.specs.declared.phases.Phase.{Phase}
use Rattle.case_types.specs.Arithmetic.Bounds.{potential}
use Rattle.case_types.specs.Arithmetic.Tables.{ends_at}
use Rattle.case_types.specs.Energy.Components.{critical_temperature, critical_pressure, interaction, feed}
use Rattle.case_types.specs.Energy.Instances.{pair_place}
use Rattle.cert_format.specs.declared.heads.Head.{Head}
use Rattle.cert_format.specs.Heads.{says, said_of, shape_of, saying, phase_said, edition_number, IsHead, IsVersionOf}
use Rattle.cert_lines.specs.Heads.{number_in}
use Rattle.cert_lines.specs.Lines.{Said}
use Rattle.cert_lines.specs.declared.places.Shape.{Shape}
use Rattle.pr_params.proofs.Exports.{interaction_turned, interaction_own}
use Rattle.case_types.specs.Arithmetic.Same.{AreCasesSame, IsPhaseSame, ArePhasesSame, ArePotentialsSame}
use Rattle.log_laws.proofs.Exports.{sum_below-same}
use Rattle.cert_check.proofs.Saying.{AllAlike, said_alike}

pub record AreHeadsSame (h g : Head) : Type 0 where
  pub case : AreCasesSame h.params.case g.params.case
  pub two : ends_of h.params.two ≡ ends_of g.params.two
  pub log_e : ends_of h.params.e ≡ ends_of g.params.e
  pub temperature_roots : (i : ℕ) → i < h.params.case.n → ends_at (map ends_of h.params.t) i ≡ ends_at (map ends_of g.params.t) i
  pub pressure_roots : (i j : ℕ) → i < j → j < h.params.case.n →
      ends_at (map ends_of h.params.q) (pair_place i j) ≡ ends_at (map ends_of g.params.q) (pair_place i j)
  pub sum : h.split.sum ≡ g.split.sum
  pub phases : ArePhasesSame h.params.case.n h.split.phases.items g.split.phases.items
  pub u : h.u ≡ g.u
  pub plane : ArePotentialsSame h.params.case.n h.plane.lam g.plane.lam
  pub low : h.low ≡ g.low
  pub gap : h.gap ≡ g.gap
  pub letters : h.letters ≡ g.letters

-- ---- numbers of a line
whole : (a b : ℕ) → pos a ≡ pos b → a ≡ b
whole a b e = cc

number : (i : ℕ) (x y : Said) → x ≡ y → number_in x i ≡ number_in y i
number i x y e = ap (λ (s : Said). number_in s i) e

natural : (i a b : ℕ) (x y : Said) → x ≡ y → number_in x i ≡ pos a → number_in y i ≡ pos b → a ≡ b
natural i a b x y e ea eb = whole a b (sym ea ∙ number i x y e ∙ eb)

same_ends : (v w : Ends) → v.lo ≡ w.lo → v.hi ≡ w.hi → v ≡ w
same_ends v w l h = rw (l, h) refl

same_edition : (a b : Edition) → pos (edition_number a) ≡ pos (edition_number b) → a ≡ b
same_edition Y1976 Y1976 e = refl
same_edition Y1976 Y1978 e = let k : 76 ≡ 78 = whole 76 78 e in absurd (omega (arith, k))
same_edition Y1978 Y1976 e = let k : 78 ≡ 76 = whole 78 76 e in absurd (omega (arith, k))
same_edition Y1978 Y1978 e = refl

-- ---- lists of numbers
-- the first n numbers of a list, as integers
listed : (xs : List ℕ) (n i : ℕ) → i < n → slice_index_or (map pos (take n xs)) i (pos 0) ≡ pos (slice_index xs i)
listed [] zero i l = absurd (omega (arith, l))
listed [] (suc n) i l = refl
listed (x ∷ xs) zero i l = absurd (omega (arith, l))
listed (x ∷ xs) (suc n) zero l = refl
listed (x ∷ xs) (suc n) (suc i) l = listed xs n i (omega (arith, l))

taken : (xs : List ℤ) (n i : ℕ) → i < n → slice_index_or (take n xs) i (pos 0) ≡ potential xs i
taken [] zero i l = absurd (omega (arith, l))
taken [] (suc n) i l = refl
taken (x ∷ xs) zero i l = absurd (omega (arith, l))
taken (x ∷ xs) (suc n) zero l = refl
taken (x ∷ xs) (suc n) (suc i) l = taken xs n i (omega (arith, l))

-- ---- phases
phase_alike : (n : ℕ) (f g : Phase) → phase_said n f ≡ phase_said n g → IsPhaseSame n f g
phase_alike n f g e = record {
  packing = natural 0 f.packing g.packing (phase_said n f) (phase_said n g) e refl refl;
  parts = λ i l.
      whole (slice_index f.parts i) (slice_index g.parts i)
      (sym (listed f.parts n i l) ∙ number (suc i) (phase_said n f) (phase_said n g) e ∙ listed g.parts n i l);
}

nothing : Said
nothing = saying []

phases_alike : (n : ℕ) (fs gs : List Phase) → length fs ≡ length gs →
    ((k : ℕ) → k < length fs → slice_index_or (map (phase_said n) fs) k (saying []) ≡ slice_index_or (map (phase_said n) gs) k (saying [])) → ArePhasesSame n fs gs
unfolding ArePhasesSame
phases_alike n [] [] e h = tt
phases_alike n [] (g ∷ gs) e h = absurd (omega (arith, e))
phases_alike n (f ∷ fs) [] e h = absurd (omega (arith, e))
phases_alike n (f ∷ fs) (g ∷ gs) e h =
    (phase_alike n f g (h 0 (omega arith)), phases_alike n fs gs (omega (arith, e)) (λ k l. h (suc k) (omega (arith, l))))

-- ---- cases
by_order : (c d : Case) → c.n ≡ d.n → ((i j : ℕ) → i < j → j < c.n → interaction c i j ≡ interaction d i j) →
    (i j : ℕ) → i < c.n → j < c.n → interaction c i j ≡ interaction d i j
by_order c d n e i j l m = elim (cases_lt i j) [
  | inl less ↦ e i j less m
  | inr more ↦ elim (cases_lt j i) [
    | inl less ↦ interaction_turned c i j l m ∙ e j i less l ∙ sym (interaction_turned d i j (omega (arith, l, n)) (omega (arith, m, n)))
    | inr least ↦
        let same : j ≡ i = omega (arith, more, least) in
        rw same (interaction_own c i l ∙ sym (interaction_own d i (omega (arith, l, n))))
  ]
]

edition_alike : (h g : Head) → IsHead h → IsHead g → h.version ≡ g.version → AllAlike h g (shape_of h) → h.params.case.edition ≡ g.params.case.edition
unfolding says
edition_alike h g is that v a = by_version is.version that.version
  where
    by_version : IsVersionOf h.version h.params.case.edition → IsVersionOf g.version g.params.case.edition → h.params.case.edition ≡ g.params.case.edition
    by_version (inl x) (inl y) = x.1 ∙ sym y.1
    by_version (inl x) (inr y) = absurd (omega (arith, x.0, y, v))
    by_version (inr x) y = same_edition h.params.case.edition g.params.case.edition (ap (λ (s : Said). number_in s 0) (a.edition x))

case_alike : (h g : Head) → IsHead h → IsHead g → shape_of h ≡ shape_of g → AllAlike h g (shape_of h) → AreCasesSame h.params.case g.params.case
unfolding says
case_alike h g is that shape a =
    let c = h.params.case in
    let d = g.params.case in
    let n : c.n ≡ d.n = ap (λ (s : Shape). s.n) shape in
    let z : (i : ℕ) → i < c.n → feed c i ≡ feed d i =
    λ i l. whole (feed c i) (feed d i) (ap (λ (s : Said). number_in s 3) (a.components i l)) in
    record {
      count = n;
      temperature = whole c.t d.t (ap (λ (s : Said). number_in s 0) a.temperature);
      pressure = whole c.p d.p (ap (λ (s : Said). number_in s 0) a.pressure);
      edition = edition_alike h g is that (ap (λ (s : Shape). s.version) shape) a;
      total = sym c.added ∙ sum_below-same c.n (slice_index c.z) (slice_index d.z) z ∙ rw n d.added;
      tc = λ i l. whole (critical_temperature c i) (critical_temperature d i) (ap (λ (s : Said). number_in s 0) (a.components i l));
      pc = λ i l. whole (critical_pressure c i) (critical_pressure d i) (ap (λ (s : Said). number_in s 1) (a.components i l));
      w = λ i l. ap (λ (s : Said). number_in s 2) (a.components i l);
      k = by_order c d n (λ i j l m. ap (λ (s : Said). number_in s 2) (a.interactions i j l m));
      z = z;
    }

pub heads_same : (h g : Head) → IsHead h → IsHead g → shape_of h ≡ shape_of g → said_of h ≡ said_of g → AreHeadsSame h g
unfolding says
heads_same h g is that shape said =
    let a = said_alike h g shape said in
    let c = h.params.case in
    let n : c.n ≡ g.params.case.n = ap (λ (s : Shape). s.n) shape in
    let pair : (i : ℕ) (x y : Said) (v w : Ends) → x ≡ y → number_in x i ≡ v.lo → number_in x (i + 1) ≡ v.hi → number_in y i ≡ w.lo → number_in y (i + 1) ≡ w.hi → v ≡ w =
    λ i x y v w e a b c d. same_ends v w (sym a ∙ number i x y e ∙ c) (sym b ∙ number (i + 1) x y e ∙ d) in
    record {
      case = case_alike h g is that shape a;
      two = pair 0 _ _ (ends_of h.params.two) (ends_of g.params.two) a.two refl refl refl refl;
      log_e = pair 0 _ _ (ends_of h.params.e) (ends_of g.params.e) a.log_e refl refl refl refl;
      temperature_roots =
          λ i l. pair 1 _ _ (ends_at (map ends_of h.params.t) i) (ends_at (map ends_of g.params.t) i) (a.temperature_roots i l) refl refl refl refl;
      pressure_roots =
          λ i j l m. pair 2 _ _ (ends_at (map ends_of h.params.q) (pair_place i j)) (ends_at (map ends_of g.params.q) (pair_place i j)) (a.pressure_roots i j l m)
          refl refl refl refl;
      sum = whole h.split.sum g.split.sum (ap (λ (s : Said). number_in s 1) a.split);
      phases =
          phases_alike c.n h.split.phases.items g.split.phases.items (ap (λ (s : Shape). s.phases) shape)
          (λ k l. a.phases k l ∙ ap (λ (m : ℕ). slice_index_or (map (phase_said m) g.split.phases.items) k (saying [])) (sym n));
      u = ap (λ (s : Said). number_in s 0) a.upper;
      plane =
          λ i l.
          sym (taken h.plane.lam c.n i l) ∙ ap (λ (s : Said). number_in s i) a.plane ∙ taken g.plane.lam g.params.case.n i (omega (arith, l, n));
      low = ap (λ (s : Said). number_in s 0) a.low;
      gap = ap (λ (s : Said). number_in s 0) a.gap;
      letters = ap (λ (s : Shape). s.letters) shape;
    }
