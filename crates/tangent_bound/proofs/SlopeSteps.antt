-- The steps from the middle of a cell to a state of it, and what the parts know of them.
use Rattle.std.proofs.Common.{ℕ, ◌+◌, ◌-◌, ◌*◌, ◌/◌, ◌^◌, ◌≤◌, ◌<◌, ◌≡◌, ◌==◌, ◌||◌, Bool, true, false, cond, nat_lt, refl, arith, lit<, ℤ, pos, negsuc, ◌<ℤ◌}
use Rattle.std.proofs.lemmas.Int.{ints}
use Rattle.log_laws.specs.Fraction.{Fraction, IsSame, difference}
use Rattle.log_laws.specs.LogSum.{ratio}
use Rattle.log_laws.specs.Sums.{int_sum_below}
use Rattle.log_laws.specs.Whole.{positive_part}
use Rattle.log_laws.proofs.Exports.{over_den, product_pos}
use Rattle.case_types.specs.Energy.Divisions.{State, IsState, moles, mole_fraction}
use Rattle.case_types.specs.Grid.Cells.{Region}
use Rattle.slope_form.specs.Meaning.{Steps}
use Rattle.slope_form.proofs.Exports.{free_step, gap, gap_same, gaps_none, packing_same, step_of}
use Rattle.tangent_bound.specs.SlopeLows.{centre}
use Rattle.tangent_bound.proofs.SlopeParts.{middle_state}

-- the steps z of the fractions of all components from c to f, over the denominator of d, and that of the packing
pub record AreSteps (n : ℕ) (c f : State) (d : Steps) (z : ℕ → ℤ) : Type 0 where
  pub free : (j : ℕ) → j < n - 1 → d.step j ≡ z j
  pub same : (i : ℕ) → i < n → IsSame (difference (mole_fraction n f i) (mole_fraction n c i)) (over_den (z i) d.den)
  pub none : int_sum_below n z ≡ pos 0
  pub packing : IsSame (difference f.packing c.packing) (over_den (d.step 3) d.den)

-- the steps from the middle to a state; none along the edges of fractions that aren't there
abbrev pub steps_to : (n : ℕ) (r : Region) (f : State) → IsState n f → Steps
steps_to n r f s = record {
  den = moles n f * 2 ^ 40 * f.packing.den;
  positive = product_pos (moles n f * 2 ^ 40) f.packing.den (product_pos (moles n f) (2 ^ 40) s.some (lit< tt)) s.is_fraction;
  step = λ j. cond (nat_lt j (n - 1) || j == 3) (step_of f.parts (moles n f) (centre n r) (positive_part f.packing.num) f.packing.den ((r.ylo + r.yhi) / 2) j) (pos 0);
}

-- of a component
abbrev pub step_of_part : ℕ → Region → State → ℕ → ℤ
step_of_part n r f i = gap (f.parts i) (moles n f) (centre n r i) (2 ^ 40) f.packing.den

packing_step : (z : ℤ) (k c w : ℕ) → pos 0 <ℤ z → 0 < k → 0 < w →
    IsSame (difference (let y : Fraction = record { num = z; den = k } in y) (ratio c (2 ^ 40))) (over_den (gap (positive_part z) k c (2 ^ 40) w) (w * 2 ^ 40 * k))
packing_step (pos y) k c w h pk pw = packing_same y k c w pk pw
packing_step (negsuc y) k c w h pk pw = absurd (omega (arith, ints, h))

-- ---- along each edge
pub free_is : (n : ℕ) (r : Region) (f : State) (s : IsState n f) (j : ℕ) → n ≤ 4 → j < n - 1 → (steps_to n r f s).step j ≡ step_of_part n r f j
free_is n r f s j few h =
    rw (less j (n - 1) h) (free_step f.parts (moles n f) (centre n r) (positive_part f.packing.num) f.packing.den ((r.ylo + r.yhi) / 2) j (omega (arith, h, few)))
  where
    less : (a b : ℕ) → a < b → nat_lt a b ≡ true
    less a b h = grind (arith, h)

pub packing_is : (n : ℕ) (r : Region) (f : State) (s : IsState n f) →
    (steps_to n r f s).step 3 ≡ gap (positive_part f.packing.num) f.packing.den ((r.ylo + r.yhi) / 2) (2 ^ 40) (moles n f)
packing_is n r f s = rw (any (nat_lt 3 (n - 1))) refl
  where
    any : (b : Bool) → (b || true) ≡ true
    any true = refl
    any false = refl

pub unused_is : (n : ℕ) (r : Region) (f : State) (s : IsState n f) (j : ℕ) → n - 1 ≤ j → j < 3 → (steps_to n r f s).step j ≡ pos 0
unused_is n r f s j h l = rw (no j (n - 1) h, other j l) refl
  where
    no : (a b : ℕ) → b ≤ a → nat_lt a b ≡ false
    no a b h = grind (arith, h)

    other : (a : ℕ) → a < 3 → (a == 3) ≡ false
    other a h = grind (arith, h)

pub steps_are : (n : ℕ) (r : Region) (f : State) (s : IsState n f) → n ≤ 4 → moles n (middle_state n r) ≡ 2 ^ 40 →
    AreSteps n (middle_state n r) f (steps_to n r f s) (step_of_part n r f)
steps_are n r f s few all = record {
  free = λ j h. free_is n r f s j few h;
  same = λ i h. rw all (gap_same (f.parts i) (moles n f) (centre n r i) (2 ^ 40) f.packing.den s.some (lit< tt) s.is_fraction);
  none = gaps_none n f.parts (centre n r) (moles n f) (2 ^ 40) f.packing.den refl all;
  packing = rw (packing_is n r f s) (packing_step f.packing.num f.packing.den ((r.ylo + r.yhi) / 2) (moles n f) s.not_empty s.is_fraction s.some);
}
