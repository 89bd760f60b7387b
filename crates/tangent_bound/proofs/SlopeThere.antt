-- Where a cell has a slope low, its middle is a composition with something of each component, and a packing between 0 and 1.
use Rattle.std.proofs.Common.{ℕ, ◌+◌, ◌-◌, ◌*◌, ◌/◌, ◌^◌, ◌≤◌, ◌<◌, ◌≡◌, zero, suc, refl, arith, inl, inr, List, ℤ, pos, ◌*ℤ◌, ◌≤ℤ◌, ◌<ℤ◌, Option, Some, None, option_map, slice_index}
use Rattle.std.proofs.Math.Nat.{mul-le-mul_right}
use Rattle.std.proofs.lemmas.Bool.{cases_lt}
use Rattle.std.proofs.lemmas.Int.{ints}
use Rattle.log_laws.specs.Between.{Ends}
use Rattle.log_laws.specs.LogSum.{ratio}
use Rattle.case_types.specs.Arithmetic.Bounds.{one}
use Rattle.case_types.specs.Arithmetic.Numbers.{Numbers}
use Rattle.case_types.specs.Energy.Divisions.{State, IsState}
use Rattle.case_types.specs.Grid.Cells.{Region, IsWithin, box_of_region, middle_sum}
use Rattle.slope_form.specs.Arithmetic.{both, log_of_ends, product_of_ends, sum_of_ends}
use Rattle.slope_form.specs.Forms.{Form, bend_of, difference_form, log_form, point_ends, sum_form, x_log_x_ends}
use Rattle.slope_form.specs.Meaning.{low_of}
use Rattle.slope_form.proofs.Exports.{both_some, form_from_some, log_in}
use Rattle.tangent_bound.specs.SlopeLows.{cell_form, centre, log_of_form, mix_forms, mixing_ends, mixing_form, packing_form, packing_forms, slope_low, step_from, step_to}
use Rattle.tangent_bound.proofs.SlopeMiddle.{centre_last}
use Rattle.tangent_bound.proofs.SlopeScales.{point_between}
use Rattle.tangent_bound.proofs.SlopeSums.{sum_there}

-- ---- the low is that of a form that is there
pub mapped_some : {A B : Type 0} (h : A → B) (q : Option A) (y : B) → option_map h q ≡ Some y → (x : A) × (q ≡ Some x) × (h x ≡ y)
mapped_some h None y e = absurd (cc)
mapped_some h (Some x) y e = (x, refl, cc)

pub low_is_of : (p : Numbers) (lam : List ℤ) (r : Region) (low : ℤ) → slope_low p lam r ≡ Some low →
    (f : Form) × (cell_form p (mix_forms p lam r) (packing_forms p r.ylo r.yhi) ≡ Some f) × (low_of f (step_from r) (step_to r) ≡ low)
unfolding slope_low
low_is_of p lam r low h = mapped_some (λ (f : Form). low_of f (step_from r) (step_to r)) (cell_form p (mix_forms p lam r) (packing_forms p r.ylo r.yhi)) low h

-- ---- a logarithm of a point that is there
log_there : (m : ℕ) (e : Ends) → m < 2 ^ 62 → log_of_ends (point_ends m) ≡ Some e → 1 ≤ m
log_there m e t h =
    let i = (log_in (point_ends m) e (ratio m (2 ^ 40)) (omega (arith, ints)) (omega (arith, ints, t)) h (point_between m)).0 in
    omega (arith, ints, i)

-- the terms of the mixing, and the logarithm of the packing
terms_there : (p : Numbers) (lam : List ℤ) (r : Region) (f : Form) → cell_form p (mix_forms p lam r) (packing_forms p r.ylo r.yhi) ≡ Some f →
    (m : Form) × (l : Form) × (mixing_form p r ≡ Some m) × (log_of_form p.log_e (Some (packing_form r.ylo r.yhi)) ≡ Some l)
unfolding cell_form
terms_there p lam r f h =
    let a = both_some difference_form _ _ f h in
    let b = both_some sum_form _ _ a.0 a.2 in
    let c = both_some difference_form _ _ b.0 b.2 in
    let d = both_some difference_form _ _ c.0 c.2 in
    let e = both_some sum_form _ _ d.0 d.2 in
    let g = both_some difference_form _ _ e.0 e.2 in
    let k = both_some sum_form _ _ g.0 g.2 in
    (k.0, k.1, k.2, k.3)

-- ---- the packing at the middle
packing_middle : (p : Numbers) (r : Region) (l : Form) → (r.ylo + r.yhi) / 2 < 2 ^ 62 → log_of_form p.log_e (Some (packing_form r.ylo r.yhi)) ≡ Some l → 1 ≤ (r.ylo + r.yhi) / 2
unfolding log_form
packing_middle p r l t h =
    let q = form_from_some _ _ _ l h in
    log_there ((r.ylo + r.yhi) / 2) l.at t q.0

-- a state leaves room above the lower end
pub packing_room : (n : ℕ) (r : Region) (f : State) → r.yhi ≤ one → IsState n f → IsWithin n r f → (r.ylo + r.yhi) / 2 < one
packing_room n r f h s within =
    let d = within.denser in
    let low : r.ylo < one = room r.ylo f.packing.num f.packing.den s.not_full d in
    omega (arith, low, h)
  where
    room : (y : ℕ) (z : ℤ) (k : ℕ) → z <ℤ pos k → pos (y * k) ≤ℤ (z *ℤ pos one) → y < one
    room y z k l h = elim (cases_lt y one) [ inl less ↦ less | inr more ↦ (let m : one * k ≤ y * k = mul-le-mul_right k more in absurd (omega (arith, ints, l, h, m))) ]

-- ---- the last component at the middle
x_log_x_there : (a b m : ℕ) (e : Ends) (v : Ends × Ends) → m < 2 ^ 62 → x_log_x_ends a b m e ≡ Some v → 1 ≤ m
unfolding x_log_x_ends
x_log_x_there a b m e v t h =
    let log = log_of_ends (point_ends m) in
    let q = both_some (λ (at by : Ends). Some (at, by)) (both product_of_ends (Some (point_ends m)) log) (both sum_of_ends log (bend_of a b m e)) v h in
    let c = both_some product_of_ends (Some (point_ends m)) log q.0 q.2 in
    log_there m c.1 t c.3

last_there : (p : Numbers) (r : Region) (f : Form) (m : ℕ) → p.count ≡ suc m → mixing_form p r ≡ Some f → centre (suc m) r m < 2 ^ 62 → 1 ≤ centre (suc m) r m
unfolding mixing_form
last_there p r f m n h t =
    let q = form_from_some _ _ _ f h in
    let s = sum_there p.count (λ i. option_map (λ m. m.0) (mixing_ends p r i)) f.at q.0 m (rw n (omega arith)) in
    let x = mapped_some (λ (v : Ends × Ends). v.0) (mixing_ends p r m) s.0 s.1 in
    let k : centre p.count r m < 2 ^ 62 = rw n t in
    let l = x_log_x_there (slice_index (box_of_region p.count r).lo m) (slice_index (box_of_region p.count r).hi m) (centre p.count r m) p.log_e x.0 k x.1 in
    rw n at l

pub middle_room : (p : Numbers) (r : Region) (f : Form) → 0 < p.count → p.count ≤ 4 → mixing_form p r ≡ Some f → middle_sum p.count r ≤ 2 ^ 20
middle_room p r f some few h = at_last p.count refl some
  where
    at_last : (n : ℕ) → p.count ≡ n → 0 < n → middle_sum n r ≤ 2 ^ 20
    at_last zero e s = absurd (omega (arith, s))
    at_last (suc m) e s =
        let last = centre_last (suc m) r m (omega arith) (rw e at few) (omega arith) in
        let there = last_there p r f m e h (rw last (omega arith)) in
        let k : 1 ≤ (2 ^ 20 - middle_sum (suc m) r) * 2 ^ 20 = rw last at there in
        omega (arith, k)

-- ---- what a slope low says of the middle
pub record HasMiddle (n : ℕ) (r : Region) : Type 0 where
  pub sum : middle_sum n r ≤ 2 ^ 20
  pub some : 1 ≤ (r.ylo + r.yhi) / 2

pub has_middle : (p : Numbers) (lam : List ℤ) (r : Region) (f : Form) → 0 < p.count → p.count ≤ 4 → r.ylo ≤ one → r.yhi ≤ one →
    cell_form p (mix_forms p lam r) (packing_forms p r.ylo r.yhi) ≡ Some f → HasMiddle p.count r
has_middle p lam r f some few low high h =
    let t = terms_there p lam r f h in
    record { sum = middle_room p r t.0 some few t.2; some = packing_middle p r t.1 (omega (arith, low, high)) t.3 }
