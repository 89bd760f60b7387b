-- Sums of ends that may not be there, and forms of means: what is known where they are there.
use Rattle.std.proofs.Common.{ℕ, ◌-◌, ◌^◌, ◌<◌, ◌≡◌, Bool, true, false, cond, nat_lt, zero, suc, refl, arith, ℤ, pos, ◌+ℤ◌, ◌-ℤ◌, ◌*ℤ◌, ◌≤ℤ◌, ◌<ℤ◌, Option, Some, None, inl, inr}
use Rattle.std.proofs.lemmas.Bool.{cases_lt}
use Rattle.std.proofs.lemmas.Int.{ints}
use Rattle.log_laws.specs.Between.{Ends, IsBetween}
use Rattle.log_laws.specs.Fraction.{Fraction, IsFraction, whole}
use Rattle.log_laws.specs.Interval.{ends}
use Rattle.log_laws.specs.LogSum.{LogSum}
use Rattle.log_laws.specs.Sums.{fraction_sum_below, log_sum_below}
use Rattle.log_laws.specs.Whole.{floor_over, ceil_over}
use Rattle.log_laws.proofs.Exports.{floor_over-le, le-ceil_over}
use Rattle.case_types.specs.Arithmetic.Tables.{no_ends}
use Rattle.fix_interval.proofs.Exports.{IsBetween-sum_of}
use Rattle.slope_form.specs.Arithmetic.{capped, both, sum_of_ends, difference_of_ends}
use Rattle.slope_form.specs.Forms.{Form, each, slope_of}
use Rattle.slope_form.specs.Meaning.{Steps, IsIn, IsSloped, change}
use Rattle.slope_form.proofs.Exports.{IsCapped, IsForm, Moves, both_some, capped_some, difference_some, each_some, form_from_some, free_ends, in_added, in_fraction, sloped, sum_some}
use Rattle.tangent_bound.specs.SlopeLows.{free_slope, mix_form, sum_of_all}

-- ---- ends that are there
pub record IsFit (e : Ends) : Type 0 where
  pub ordered : e.lo ≤ℤ e.hi
  pub top : e.hi <ℤ pos (2 ^ 62)

pub fit_of : (lo hi : ℤ) (e : Ends) → IsCapped lo hi e → IsFit e
fit_of lo hi e c =
    let p = c.lo_is in
    let q = c.hi_is in
    let s = c.hi_small in
    record { ordered = rw (p, q) c.ordered; top = rw q (omega (arith, ints, s)) }

pub none_fit : (e : Ends) → Some no_ends ≡ Some e → IsFit e
none_fit e h = let k : no_ends ≡ e = cc in rw (← k) (record { ordered = omega (arith, ints); top = omega (arith, ints) })

pub capped_fit : (lo hi : ℤ) (e : Ends) → capped lo hi ≡ Some e → IsFit e
capped_fit lo hi e h = fit_of lo hi e (capped_some lo hi e h)

-- ---- sums
pub sum_fit : (n : ℕ) (v : ℕ → Option Ends) (e : Ends) → sum_of_all n v ≡ Some e → IsFit e
unfolding sum_of_all
sum_fit zero v e h = none_fit e h
sum_fit (suc n) v e h =
    let b = both_some sum_of_ends (sum_of_all n v) (v n) e h in
    fit_of (b.0.lo +ℤ b.1.lo) (b.0.hi +ℤ b.1.hi) e (sum_some b.0 b.1 e b.4)

nothing_between : (e : Ends) → Some no_ends ≡ Some e → IsBetween e (2 ^ 40) (whole (pos 0))
nothing_between e h = let k : no_ends ≡ e = cc in rw (← k) (record { is_fraction = omega arith; above = omega (arith, ints); below = omega (arith, ints) })

pub between_capped : (lo hi : ℤ) (e : Ends) (f : Fraction) → IsCapped lo hi e → IsBetween (ends lo hi) (2 ^ 40) f → IsBetween e (2 ^ 40) f
between_capped lo hi e f c b =
    let p = c.lo_is in
    let q = c.hi_is in
    record { is_fraction = b.is_fraction; above = rw p b.above; below = rw q b.below }

-- fractions between the ends add up to one between their sum
pub sum_between : (n : ℕ) (v : ℕ → Option Ends) (f : ℕ → Fraction) (e : Ends) → sum_of_all n v ≡ Some e → ((i : ℕ) (w : Ends) → i < n → v i ≡ Some w → IsBetween w (2 ^ 40) (f i)) →
    IsBetween e (2 ^ 40) (fraction_sum_below n f)
unfolding sum_of_all fraction_sum_below
sum_between zero v f e h k = nothing_between e h
sum_between (suc n) v f e h k =
    let b = both_some sum_of_ends (sum_of_all n v) (v n) e h in
    between_capped (b.0.lo +ℤ b.1.lo) (b.0.hi +ℤ b.1.hi) e (fraction_sum_below (suc n) f) (sum_some b.0 b.1 e b.4)
    (IsBetween-sum_of b.0 b.1 (2 ^ 40) (fraction_sum_below n f) (f n) (sum_between n v f b.0 b.2 (λ i w l. k i w (omega (arith, l)))) (k n b.1 (omega arith) b.3))

-- and log sums
pub sum_in : (n : ℕ) (v : ℕ → Option Ends) (u : ℕ → LogSum) (e : Ends) → sum_of_all n v ≡ Some e → ((i : ℕ) (w : Ends) → i < n → v i ≡ Some w → IsIn w (u i)) → IsIn e (log_sum_below n u)
unfolding sum_of_all log_sum_below
sum_in zero v u e h k = in_fraction e (whole (pos 0)) (nothing_between e h)
sum_in (suc n) v u e h k =
    let b = both_some sum_of_ends (sum_of_all n v) (v n) e h in
    let c = sum_some b.0 b.1 e b.4 in
    in_added b.0 b.1 e (log_sum_below n u) (u n) (sum_in n v u b.0 b.2 (λ i w l. k i w (omega (arith, l)))) (k n b.1 (omega arith) b.3) c.lo_is c.hi_is

-- where the sum is there, each is
pub sum_there : (n : ℕ) (v : ℕ → Option Ends) (e : Ends) → sum_of_all n v ≡ Some e → (i : ℕ) → i < n → (w : Ends) × (v i ≡ Some w)
unfolding sum_of_all
sum_there zero v e h i l = absurd (omega (arith, l))
sum_there (suc n) v e h i l =
    let b = both_some sum_of_ends (sum_of_all n v) (v n) e h in
    elim (cases_lt i n) [ inl k ↦ sum_there n v b.0 b.2 i k | inr k ↦ let q : i ≡ n = omega (arith, l, k) in (b.1, rw q b.3) ]

-- ---- ends of a fraction where none are there
pub chosen : Option Ends → Fraction → Ends
chosen (Some e) f = e
chosen None f = ends (floor_over (f.num *ℤ pos (2 ^ 40)) f.den) (ceil_over (f.num *ℤ pos (2 ^ 40)) f.den)

pub chosen_is : (v : Option Ends) (f : Fraction) (e : Ends) → v ≡ Some e → chosen v f ≡ e
unfolding chosen
chosen_is (Some w) f e h = cc
chosen_is None f e h = absurd (cc)

pub chosen_holds : (v : Option Ends) (f : Fraction) → IsFraction f → ((e : Ends) → v ≡ Some e → IsBetween e (2 ^ 40) f) → IsBetween (chosen v f) (2 ^ 40) f
unfolding chosen
chosen_holds (Some e) f pf h = h e refl
chosen_holds None f pf h = record { is_fraction = pf; above = floor_over-le (f.num *ℤ pos (2 ^ 40)) f.den pf; below = le-ceil_over (f.num *ℤ pos (2 ^ 40)) f.den pf }

-- ---- forms of means
pub record MixParts (n : ℕ) (a o : Option Ends) (v : ℕ → Option Ends) (h : Form) : Type 0 where
  pub at : a ≡ Some h.at
  pub over : o ≡ Some h.over
  pub by : (j : ℕ) → j < 4 → free_slope n v j ≡ Some (slope_of h j)

pub mix_some : (n : ℕ) (at over : Option Ends) (v : ℕ → Option Ends) (h : Form) → mix_form n at over v ≡ Some h → MixParts n at over v h
mix_some n at over v h e =
    let p = form_from_some at over (each (free_slope n v)) h e in
    record { at = p.0; over = p.1; by = each_some (free_slope n v) h.by p.2 }

free_fit : (n : ℕ) (v : ℕ → Option Ends) (j : ℕ) (e : Ends) → free_slope n v j ≡ Some e → IsFit e
free_fit n v j e h = by_test (nat_lt j (n - 1)) h
  where
    by_test : (b : Bool) → cond b (both difference_of_ends (v j) (v (n - 1))) (Some no_ends) ≡ Some e → IsFit e
    by_test true h =
        let b = both_some difference_of_ends (v j) (v (n - 1)) e h in
        fit_of (b.0.lo -ℤ b.1.hi) (b.0.hi -ℤ b.1.lo) e (difference_some b.0 b.1 e b.4)
    by_test false h = none_fit e h

pub mix_is_form : (n : ℕ) (at over : Option Ends) (v : ℕ → Option Ends) (h : Form) → MixParts n at over v h → ((e : Ends) → at ≡ Some e → IsFit e) → ((e : Ends) → over ≡ Some e → IsFit e) → IsForm h
mix_is_form n at over v h p a o =
    let x = a h.at p.at in
    let y = o h.over p.over in
    record { at = x.ordered; over = y.ordered; by = λ j l. (free_fit n v j (slope_of h j) (p.by j l)).ordered; at_top = x.top; over_top = y.top }

-- its slopes are differences of the components' ends
free_inside : (n : ℕ) (v : ℕ → Option Ends) (w : ℕ → Ends) (j : ℕ) (e : Ends) → ((i : ℕ) (g : Ends) → v i ≡ Some g → w i ≡ g) → free_slope n v j ≡ Some e →
    (e.lo ≤ℤ (free_ends (n - 1) w j).lo) × ((free_ends (n - 1) w j).hi ≤ℤ e.hi)
free_inside n v w j e same h = by_test (nat_lt j (n - 1)) h
  where
    by_test : (b : Bool) → cond b (both difference_of_ends (v j) (v (n - 1))) (Some no_ends) ≡ Some e →
        let f = cond b (ends ((w j).lo -ℤ (w (n - 1)).hi) ((w j).hi -ℤ (w (n - 1)).lo)) (ends (pos 0) (pos 0)) in (e.lo ≤ℤ f.lo) × (f.hi ≤ℤ e.hi)
    by_test true h =
        let b = both_some difference_of_ends (v j) (v (n - 1)) e h in
        let c = difference_some b.0 b.1 e b.4 in
        let p = c.lo_is in
        let q = c.hi_is in
        rw (same j b.0 b.2, same (n - 1) b.1 b.3) (omega (arith, ints, p), omega (arith, ints, q))
    by_test false h = let k : no_ends ≡ e = cc in rw (← k) (omega (arith, ints), omega (arith, ints))

pub mix_sloped : (n : ℕ) (at over : Option Ends) (v : ℕ → Option Ends) (w : ℕ → Ends) (u s : LogSum) (d : Steps) (h : Form) → MixParts n at over v h →
    ((i : ℕ) (g : Ends) → v i ≡ Some g → w i ≡ g) → IsIn h.at u → Moves (change u s) (free_ends (n - 1) w) d → IsSloped h d u s
mix_sloped n at over v w u s d h p same i m =
    sloped h d u s (free_ends (n - 1) w) i (λ j l. free_inside n v w j (slope_of h j) same (p.by j l)) m
