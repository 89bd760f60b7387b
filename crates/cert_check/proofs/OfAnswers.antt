-- The certificate of a lawful answer is that of a good one.
use Rattle.std.proofs.Common.{◌≡◌, ℕ, ◌≤◌, zero, suc, ◌+◌, ◌*◌, ◌<◌, List, [], ◌∷◌, length, map, refl, sym, ap, subst, ◌∙◌, arith, Bool, true, not, Option, Some, None, ℤ, int_eq, inl, inr, All, get_or, slice_index}
use Rattle.std.specs.Prelude.{◌&&◌, if◌then◌else◌, is_some}
use Rattle.std.proofs.lemmas.Bool.{eq-eqb}
use Rattle.log_laws.specs.Between.{Ends}
use Rattle.log_laws.specs.Interval.{ends_of}
use Rattle.log_laws.specs.Sums.{all_below}
use Rattle.log_laws.specs.declared.iv.Iv.{Iv}
use Rattle.log_laws.proofs.Exports.{all_below-from}
use Rattle.case_types.specs.declared.answers.Answer.{Answer}
use Rattle.case_types.specs.Arithmetic.Faults.{fault_of, first_below}
use Rattle.case_types.specs.Arithmetic.Numbers.{numbers_of, enclosures_of}
use Rattle.case_types.specs.Arithmetic.Splits.{split_up}
use Rattle.case_types.specs.Arithmetic.Bounds.{energy_up}
use Rattle.case_types.specs.Arithmetic.Tables.{ends_at}
use Rattle.case_types.specs.Energy.Divisions.{AddsUp, IsState, state_of, division_of, parts_in}
use Rattle.case_types.specs.Energy.Components.{feed}
use Rattle.case_types.specs.Energy.Instances.{Enclosures, pair_place}
use Rattle.case_types.specs.Energy.Printed.{ends_in}
use Rattle.case_types.specs.Grid.Cells.{root_region}
use Rattle.energy_surface.specs.Lawful.{IsLawful}
use Rattle.energy_surface.specs.Outcomes.{IsAnswer}
use Rattle.pr_params.specs.declared.numbers.Params.{Params}
use Rattle.pr_params.proofs.Exports.{count_of}
use Rattle.pr_surface.specs.PengRobinson.{surface_of}
use Rattle.cert_format.specs.Heads.{IsHead, text_with}
use Rattle.cert_format.specs.Writing.{IsSized, head_of, last_letters, certificate_text}
use Rattle.cert_format.proofs.Exports.{answers_write_trees}
use Rattle.cert_letters.specs.Bounds.{leaf_test}
use Rattle.cert_letters.specs.Lines.{IsGoodTree, tree_letters}
use Rattle.cert_check.specs.Converse.{AnswersAreAccepted, AreNamed}
use Rattle.cert_check.specs.Judging.{IsVerdict}
use Rattle.cert_check.specs.Streams.{IsStreamVerdict}
use Rattle.cert_format.specs.declared.verdicts.Verdict.{Verdict}
use Rattle.cert_format.specs.Answers.{AreLastLetters}
use Rattle.case_types.specs.declared.phases.Phase.{Phase}
use Rattle.log_laws.specs.Sums.{sum_below}
use Rattle.std.proofs.lemmas.List.{length-map, get_or-map}
use Rattle.cert_check.specs.Tests.{are_same, states_pairs, are_good_params, adds_up_at, first_unbalanced, first_broken}
use Rattle.answer_sizes.proofs.Exports.{answers_are_small}
use Rattle.cert_check.proofs.Converse.{good_is_accepted}
use Rattle.cert_check.proofs.Sizes.{text_short}

-- ---- the printed pairs
same_number : (a b : ℤ) → a ≡ b → int_eq a b ≡ true
same_number a b e = grind (arith, e)

same_pair : (v w : Ends) → v ≡ w → are_same v w ≡ true
same_pair v w e = rw (same_number v.lo w.lo (ap (λ (x : Ends). x.lo) e), same_number v.hi w.hi (ap (λ (x : Ends). x.hi) e)) refl

first_ends : (n i : ℕ) (vs : List Iv) → i < n → ends_at (map ends_of vs) i ≡ ends_at (ends_in n vs) i
first_ends zero i vs l = absurd (omega (arith, l))
first_ends (suc n) i [] l = refl
first_ends (suc n) zero (v ∷ vs) l = refl
first_ends (suc n) (suc i) (v ∷ vs) l = first_ends n i vs (omega (arith, l))

all_four : (a b c d : Bool) → a ≡ true → b ≡ true → c ≡ true → d ≡ true → (a && b && c && d) ≡ true
all_four a b c d x y z w = rw (x, y, z, w) refl

good_params : (p : Params) (a : Answer) → are_good_params (head_of p a).params ≡ true
unfolding are_good_params
good_params p a =
    let e = enclosures_of p.case in
    let printed = p.printed in
    let two : are_same (ends_of p.two) e.root_two ≡ true = same_pair (ends_of p.two) e.root_two (ap (λ (x : Enclosures). x.root_two) printed) in
    let log_e : are_same (ends_of p.e) e.log_e ≡ true = same_pair (ends_of p.e) e.log_e (ap (λ (x : Enclosures). x.log_e) printed) in
    let ts = all_below-from p.case.n (λ i. are_same (ends_at (map ends_of p.t) i) (ends_at e.temperature_roots i))
    (λ i l. same_pair (ends_at (map ends_of p.t) i) (ends_at e.temperature_roots i)
    (first_ends p.case.n i p.t l ∙ ap (λ (x : Enclosures). ends_at x.temperature_roots i) printed)) in
    let qs = all_below-from p.case.n (λ j. all_below j (λ i. are_same (ends_at (map ends_of p.q) (pair_place i j)) (ends_at e.pressure_roots (pair_place i j))))
    (λ j m. all_below-from j (λ i. are_same (ends_at (map ends_of p.q) (pair_place i j)) (ends_at e.pressure_roots (pair_place i j)))
    (λ i l. same_pair (ends_at (map ends_of p.q) (pair_place i j)) (ends_at e.pressure_roots (pair_place i j))
    (ap (λ (x : Enclosures). ends_at x.pressure_roots (pair_place i j)) printed))) in
    both (not (is_some (fault_of p.case))) (states_pairs (head_of p a).params e) (rw p.accepted refl)
    (all_four (are_same (ends_of p.two) e.root_two) (are_same (ends_of p.e) e.log_e)
    (all_below p.case.n (λ i. are_same (ends_at (map ends_of p.t) i) (ends_at e.temperature_roots i)))
    (all_below p.case.n (λ j. all_below j (λ i. are_same (ends_at (map ends_of p.q) (pair_place i j)) (ends_at e.pressure_roots (pair_place i j))))) two log_e ts qs)
  where
    both : (a b : Bool) → a ≡ true → b ≡ true → (a && b) ≡ true
    both a b x y = rw (x, y) refl

-- ---- the split
none_below : (n : ℕ) (f : ℕ → Option ℕ) → ((i : ℕ) → i < n → f i ≡ None) → first_below n f ≡ None
unfolding first_below
none_below zero f h = refl
none_below (suc n) f h = rw (none_below n f (λ i l. h i (omega (arith, l))), h n (omega arith)) refl

balanced : (p : Params) (a : Answer) → AddsUp p.case (division_of a.split) → first_unbalanced (head_of p a) ≡ None
unfolding first_unbalanced
balanced p a adds =
    none_below p.case.n (λ i. if adds_up_at (head_of p a) i then None else Some (i + 1))
    (λ i l. rw (eq-eqb (p.case.total * parts_in (division_of a.split).phases i) (feed p.case i * a.split.sum) (adds i l)) refl)

-- ---- the whole head
passes_tests : (p : Params) (tol budget : ℕ) (a : Answer) → IsAnswer (surface_of (numbers_of p.case)) p.case tol budget a → first_broken (head_of p a) ≡ None
unfolding first_broken
passes_tests p tol budget a h =
    let c = p.case in
    let up : a.u ≡ split_up c.n (energy_up (numbers_of c)) a.split = subst (λ (n : ℕ). a.u ≡ split_up n (energy_up (numbers_of c)) a.split) h.components h.upper in
    rw (
      good_params p a,
      balanced p a h.divides.adds_up,
      same_number a.u (split_up c.n (energy_up (numbers_of c)) a.split) up,
      same_number a.gap _ h.gap,
    ) refl

-- what holds of the states of phases holds of phases
each_phase : (n : ℕ) (fs : List Phase) → All (IsState n) (map state_of fs) → All (λ (f : Phase). 0 < sum_below n (slice_index f.parts)) fs
each_phase n fs h k d l =
    let at : IsState n (get_or (map state_of fs) k (state_of d)) = h k (state_of d) (rw (length-map fs state_of) l) in
    (subst (IsState n) (get_or-map state_of fs k d (state_of d) l) at).some

head_is : (p : Params) (tol budget : ℕ) (a : Answer) → budget ≤ 10000000 → IsLawful (surface_of (numbers_of p.case)) p.case tol budget a → AreNamed p.case →
    IsSized (head_of p a) → AreLastLetters (surface_of (numbers_of p.case)) budget a → IsHead (head_of p a)
head_is p tol budget a few lawful names sized letters =
    let small = answers_are_small p.case tol budget a few sized.phases p.accepted lawful in
    let most = letters.few in
    record {
      version = inr refl;
      named = names.named;
      differ = names.differ;
      phases = each_phase p.case.n a.split.phases.items lawful.answer.divides.phases;
      u = small.u;
      low = small.low;
      gap = small.gap;
      some = letters.some;
      few = omega (arith, most, few);
    }

-- a text within the limit
within : (text : List ℕ) (v : Verdict) → length text ≤ 67108864 → IsStreamVerdict text v → IsVerdict text v
within text v short (inl is) = is.1
within text v short (inr past) = let long = past.long in absurd (omega (arith, short, long))

pub answers_are_accepted : AnswersAreAccepted
answers_are_accepted p tol budget a few lawful names sized v judged =
    let c = p.case in
    let s = surface_of (numbers_of c) in
    let count = count_of c in
    let some = c.some in
    let most = c.few in
    let letters = answers_write_trees s c tol budget a (omega (arith, some, count)) (omega (arith, most, count)) lawful in
    let long = letters.few in
    let head = head_is p tol budget a few lawful names sized letters in
    let t = letters.written.tree in
    let good : IsGoodTree c.n (leaf_test s a.plane.lam a.low) t (root_region c.n) =
    subst (λ (n : ℕ). IsGoodTree n (leaf_test s a.plane.lam a.low) t (root_region n)) count letters.written.good in
    let written : last_letters a.work ≡ tree_letters c.n t = subst (λ (n : ℕ). last_letters a.work ≡ tree_letters n t) count letters.written.written in
    good_is_accepted (certificate_text p a) (head_of p a) sized (record {
      tree = t;
      good = record { head = head; unbroken = passes_tests p tol budget a lawful.answer; tree_good = good; counted = ap length (sym written) };
      is = ap (λ (x : List ℕ). text_with (head_of p a) x) written;
    }) v (within (certificate_text p a) v (text_short (head_of p a) (last_letters a.work) head sized (omega (arith, long, few))) judged)
