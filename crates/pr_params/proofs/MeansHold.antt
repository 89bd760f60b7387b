-- The means of a phase lie between the ends of the box that holds it, and how large those ends are.
use Rattle.std.proofs.Common.{◌≡◌, ℕ, ◌+◌, ◌^◌, ◌<◌, ◌≤◌, pos, ◌≤ℤ◌, ◌*ℤ◌, refl, subst, sym, ap, arith, zero, suc, inl, inr, ◌-◌, None, slice_index}
use Rattle.std.specs.Int.{int_min, int_max}
use Rattle.std.proofs.lemmas.Bool.{cases_lt}
use Rattle.std.proofs.lemmas.Int.{ints, clamps}
use Rattle.std.proofs.lemmas.Nat.{pow_pos}
use Rattle.log_laws.specs.Between.{IsBetween}
use Rattle.log_laws.specs.Whole.{floor_div, ceil_div}
use Rattle.log_laws.proofs.Exports.{≤ℤ_trans}
use Rattle.log_laws.specs.Sums.{sum_below, least_below, greatest_below}
use Rattle.case_types.specs.declared.cases.Case.{Case}
use Rattle.case_types.specs.declared.cells.BoxX.{BoxX}
use Rattle.case_types.specs.Arithmetic.Bounds.{Box, covolume_range, attraction_low, attraction_high, covolume_low_by_rest, covolume_high_by_rest, ratio_low, ratio_high}
use Rattle.case_types.specs.Energy.Divisions.{State, moles, mean_covolume, mean_attraction}
use Rattle.case_types.specs.Arithmetic.Faults.{fault_of}
use Rattle.case_types.specs.Arithmetic.Holding.{HoldsParameters, IsInBox, HoldsMeans}
use Rattle.case_types.specs.Energy.Instances.{Instance, IsInstance}
use Rattle.case_types.specs.Arithmetic.Numbers.{Numbers, numbers_of, enclosures_of, lift_of}
use Rattle.case_types.specs.Energy.Parameters.{covolume, attraction}
use Rattle.case_types.specs.Arithmetic.Tables.{ends_at, ends_of_pair}
use Rattle.pr_params.proofs.Accepted.{two_exact, e_exact, lift_small}
use Rattle.pr_params.proofs.AcceptedSizes.{usable, covolume_least, covolume_most}
use Rattle.pr_params.proofs.AllMeans.{AreMeans, all_means, attraction_between, le-least, least_attraction_below, floor_ratio_most}
use Rattle.pr_params.proofs.AtComponents.{covolume_at, lift_of_numbers}
use Rattle.pr_params.proofs.CovolumeRange.{AreInBox, range_holds, range_ordered, least_parts_of}
use Rattle.pr_params.proofs.InOrder.{greatest-le, attraction_most, attraction_in_order}
use Rattle.pr_params.proofs.AttractionRange.{shared_down}
use Rattle.pr_params.proofs.ParametersHold.{covolume_within, holds_parameters}
use Rattle.pr_params.proofs.Sized.{IsSized, count_of, each_at_most, ends_ordered}
use Rattle.case_types.specs.Arithmetic.Bounds.{box_of}
use Rattle.pr_params.specs.declared.numbers.Params.{Params}

-- the parts of a phase in the box
in_box : (c : Case) (box : Box) (f : State) → IsInBox c.n box f → 0 < moles c.n f → AreInBox c.n box f.parts (moles c.n f)
in_box c box f inside some = record {
  some = some;
  all = refl;
  inside = λ i h. record { above = inside.above i h; below = inside.below i h };
}

-- ---- the means of a phase
means_of : (c : Case) (x : Instance) (box : Box) (f : State) → fault_of c ≡ None → HoldsParameters c (numbers_of c) x → IsInBox c.n box f → 0 < moles c.n f
    → AreMeans (numbers_of c) box (mean_covolume c f) (mean_attraction c x f)
means_of c x box f e k inside some =
    all_means c.n (numbers_of c) (covolume c) (attraction c x) box f.parts (moles c.n f) (usable c e)
    (record { covolume = k.covolume; attraction = k.attraction }) (in_box c box f inside some)

pub holds_means : (c : Case) (x : Instance) (box : Box) (f : State) → fault_of c ≡ None → HoldsParameters c (numbers_of c) x → IsInBox c.n box f → 0 < moles c.n f
    → HoldsMeans c (numbers_of c) x box f
holds_means c x box f e k inside some =
    let means = means_of c x box f e k inside some in
    record { covolume = means.covolume; ratio_low = means.low; ratio_high = means.high }

-- the numbers of an accepted case hold the means of every instance
pub means_hold : (c : Case) (x : Instance) (box : Box) (f : State) → fault_of c ≡ None → IsInstance c (enclosures_of c) x → IsInBox c.n box f → 0 < moles c.n f
    → HoldsMeans c (numbers_of c) x box f
means_hold c x box f e i inside some = holds_means c x box f e (holds_parameters c x e i) inside some

pub mean_covolume_held : (c : Case) (box : Box) (f : State) → fault_of c ≡ None → IsInBox c.n box f → 0 < moles c.n f
    → IsBetween (covolume_range (numbers_of c) box) (2 ^ (56 + (numbers_of c).lift)) (mean_covolume c f)
mean_covolume_held c box f e inside some =
    range_holds c.n (numbers_of c) box f.parts (moles c.n f) (2 ^ (56 + (numbers_of c).lift)) (covolume c) (count_of c) c.some (pow_pos (56 + (numbers_of c).lift)) (in_box c box f inside some)
    (λ i h. record {
      low = (let l = covolume_least c i e h in omega (arith, ints, l));
      held = rw (covolume_at c i h, lift_of_numbers c) (covolume_within c (lift_of c) i h);
    })

pub mean_attraction_held : (c : Case) (x : Instance) (box : Box) (f : State) → fault_of c ≡ None → HoldsParameters c (numbers_of c) x → IsInBox c.n box f → 0 < moles c.n f
    → IsBetween (record { lo = attraction_low (numbers_of c) box; hi = attraction_high (numbers_of c) box }) (2 ^ (49 + (numbers_of c).lift)) (mean_attraction c x f)
mean_attraction_held c x box f e k inside some =
    attraction_between c.n (numbers_of c) (covolume c) (attraction c x) box f.parts (moles c.n f) (usable c e)
    (record { covolume = k.covolume; attraction = k.attraction }) (in_box c box f inside some)

-- ---- the ratios aren't negative
pub ratio_low_positive : (c : Case) (x : Instance) (box : Box) (f : State) → fault_of c ≡ None → HoldsParameters c (numbers_of c) x → IsInBox c.n box f → 0 < moles c.n f
    → pos 0 ≤ℤ ratio_low (numbers_of c) box
ratio_low_positive c x box f e k inside some = (means_of c x box f e k inside some).low_positive

pub ratio_high_positive : (c : Case) (x : Instance) (box : Box) (f : State) → fault_of c ≡ None → HoldsParameters c (numbers_of c) x → IsInBox c.n box f → 0 < moles c.n f
    → pos 0 ≤ℤ ratio_high (numbers_of c) box
ratio_high_positive c x box f e k inside some = (means_of c x box f e k inside some).high_positive

-- ---- how large the ends are
-- a part of a sum
sum_up_to : (n k : ℕ) (f : ℕ → ℕ) → k ≤ n → sum_below k f ≤ sum_below n f
sum_up_to zero k f h = let e : k ≡ 0 = omega (arith, h) in rw e (omega arith)
sum_up_to (suc n) k f h =
    elim (cases_lt k (suc n)) [
      | inl less ↦ let q = sum_up_to n k f (omega (arith, less)) in omega (arith, q)
      | inr more ↦ let e : k ≡ suc n = omega (arith, h, more) in rw e (omega arith)
    ]

-- the ends of a co-volume are in order
pub covolume_ordered : (c : Case) (i : ℕ) → i < c.n → (ends_at (numbers_of c).covolumes i).lo ≤ℤ (ends_at (numbers_of c).covolumes i).hi
covolume_ordered c i h =
    ends_ordered (ends_at (numbers_of c).covolumes i) (2 ^ (56 + lift_of c)) (covolume c i) (rw (covolume_at c i h) (covolume_within c (lift_of c) i h))

pub range_least : (c : Case) (box : Box) → fault_of c ≡ None → pos (2 ^ 50) ≤ℤ (covolume_range (numbers_of c) box).lo
unfolding covolume_range
range_least c box e =
    let first = covolume_least c 0 e c.some in
    let all = le-least (numbers_of c).count (λ i. (ends_at (numbers_of c).covolumes i).lo) (ends_at (numbers_of c).covolumes 0).lo (pos (2 ^ 50)) first
    (λ i h. covolume_least c i e (subst (λ (n : ℕ). i < n) (count_of c) h)) in
    omega (arith, ints, clamps, all)

pub range_most : (c : Case) (box : Box) → fault_of c ≡ None → (covolume_range (numbers_of c) box).hi ≤ℤ pos (2 ^ 61)
unfolding covolume_range
range_most c box e =
    let first = covolume_most c 0 e c.some in
    let all = greatest-le (numbers_of c).count (λ i. (ends_at (numbers_of c).covolumes i).hi) (ends_at (numbers_of c).covolumes 0).hi (pos (2 ^ 61)) first
    (λ i h. covolume_most c i e (subst (λ (n : ℕ). i < n) (count_of c) h)) in
    omega (arith, ints, clamps, all)

-- the ends from those of the components and from those of the rest
pub range_from : (c : Case) (box : Box) →
    (int_max (least_below c.n (λ i. (ends_at (numbers_of c).covolumes i).lo) (ends_at (numbers_of c).covolumes 0).lo) (covolume_low_by_rest (numbers_of c) box) ≡ (covolume_range (numbers_of c) box).lo)
    × (int_min (greatest_below c.n (λ i. (ends_at (numbers_of c).covolumes i).hi) (ends_at (numbers_of c).covolumes 0).hi) (covolume_high_by_rest (numbers_of c) box) ≡ (covolume_range (numbers_of c) box).hi)
unfolding covolume_range
range_from c box = (
  ap (λ (n : ℕ). int_max (least_below n (λ i. (ends_at (numbers_of c).covolumes i).lo) (ends_at (numbers_of c).covolumes 0).lo) (covolume_low_by_rest (numbers_of c) box)) (sym (count_of c)),
  ap (λ (n : ℕ). int_min (greatest_below n (λ i. (ends_at (numbers_of c).covolumes i).hi) (ends_at (numbers_of c).covolumes 0).hi) (covolume_high_by_rest (numbers_of c) box)) (sym (count_of c)),
)

-- the ends are in order over every box whose ends are
pub range_in_order : (p : Params) (x : BoxX) → (covolume_range (numbers_of p.case) (box_of x)).lo ≤ℤ (covolume_range (numbers_of p.case) (box_of x)).hi
range_in_order p x =
    let c = p.case in
    let few = c.few in
    let some = c.some in
    range_ordered c.n (numbers_of c) (box_of x) (count_of c) c.some
    (let part = sum_up_to 4 (c.n - 1) (slice_index x.a) (omega (arith, few)) in let all = x.not_above in omega (arith, part, all))
    (λ i h. each_at_most 4 x.a x.b x.ordered i (omega (arith, h, few)))
    (λ i h. (let l = covolume_least c i p.accepted h in omega (arith, ints, l)))
    (λ i h. covolume_ordered c i h)

-- ---- the lower ratio is at most 128
-- the mean attraction at least is at most the mean co-volume at most
low_in_range : (p : Params) (x : BoxX) → attraction_low (numbers_of p.case) (box_of x) ≤ℤ (covolume_range (numbers_of p.case) (box_of x)).hi
low_in_range p x =
    let c = p.case in
    let q = numbers_of c in
    let few = c.few in
    let order : (i : ℕ) → i < c.n → (ends_at q.covolumes i).lo ≤ℤ (ends_at q.covolumes i).hi = λ i h. covolume_ordered c i h in
    let least = least_parts_of c.n q (box_of x) (count_of c) c.some
    (let part = sum_up_to 4 c.n (slice_index x.a) few in let all = x.not_above in omega (arith, part, all))
    (λ i h. each_at_most 4 x.a x.b x.ordered i (omega (arith, h, few)))
    (λ i h. (let l = covolume_least c i p.accepted h in let o = order i h in omega (arith, ints, l, o))) order in
    subst (λ (n : ℕ). shared_down n (slice_index x.a) (λ i. shared_down n (slice_index x.a) (λ j. (ends_of_pair q.attractions i j).lo)) ≤ℤ (covolume_range q (box_of x)).hi) (sym (count_of c))
    (least_attraction_below c.n q (box_of x) (covolume_range q (box_of x)) (usable c p.accepted)
    (λ i j h g. ≤ℤ_trans _ _ _ (attraction_in_order c i j p.accepted h g) (attraction_most c i j p.accepted h g)) order least)

pub ratio_low_most : (p : Params) (x : BoxX) → ratio_low (numbers_of p.case) (box_of x) ≤ℤ pos (2 ^ 47)
unfolding ratio_low
ratio_low_most p x =
    let low = low_in_range p x in
    let some = range_least p.case (box_of x) p.accepted in
    let order = range_in_order p x in
    floor_ratio_most (attraction_low (numbers_of p.case) (box_of x)) (covolume_range (numbers_of p.case) (box_of x)).hi low (omega (arith, ints, some, order))

-- ---- the ratios by their ends
pub ratio_low_from : (p : Numbers) (x : Box) → floor_div (attraction_low p x *ℤ pos (2 ^ 47)) (covolume_range p x).hi ≡ ratio_low p x
unfolding ratio_low
ratio_low_from p x = refl

pub ratio_high_from : (p : Numbers) (x : Box) → int_min (ceil_div (attraction_high p x *ℤ pos (2 ^ 47)) (covolume_range p x).lo) p.rho ≡ ratio_high p x
unfolding ratio_high
ratio_high_from p x = refl

pub sized : (c : Case) (box : Box) → fault_of c ≡ None → ((i : ℕ) → i < c.n → slice_index box.hi i ≤ 2 ^ 40) → IsSized c.n (numbers_of c) box
sized c box e small = record {
  count = count_of c;
  root_two = two_exact c;
  log_e = e_exact c;
  lift = lift_small c;
  covolume_low = range_least c box e;
  covolume_high = range_most c box e;
  fractions = small;
}
