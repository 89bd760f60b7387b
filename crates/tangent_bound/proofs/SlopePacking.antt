-- The form of the packing means the packing.
use Rattle.std.proofs.Common.{ℕ, ◌+◌, ◌/◌, ◌^◌, ◌≤◌, ◌<◌, ◌≡◌, zero, suc, arith, lit<, ℤ, pos, ◌≤ℤ◌, Some}
use Rattle.std.proofs.Math.Nat.{le_of_mul-le-mul_right}
use Rattle.std.proofs.lemmas.Int.{ints}
use Rattle.log_laws.specs.Between.{IsBetween}
use Rattle.log_laws.specs.Interval.{ends}
use Rattle.log_laws.specs.LogSum.{constant}
use Rattle.case_types.specs.Arithmetic.Bounds.{one}
use Rattle.case_types.specs.Energy.Divisions.{State, IsState}
use Rattle.case_types.specs.Grid.Cells.{Region, IsWithin}
use Rattle.slope_form.specs.Forms.{slope_of}
use Rattle.slope_form.specs.Meaning.{Steps, Means}
use Rattle.slope_form.proofs.Exports.{IsForm, packing_means}
use Rattle.tangent_bound.specs.SlopeLows.{packing_form}
use Rattle.tangent_bound.proofs.SlopeParts.{Shows, middle_state}
use Rattle.tangent_bound.proofs.SlopeScales.{point_between}
use Rattle.tangent_bound.proofs.SlopeSteps.{AreSteps}

is_form : (yl yh : ℕ) → yl ≤ yh → yh ≤ one → IsForm (packing_form yl yh)
is_form yl yh o top = record {
  at = omega (arith, ints);
  over = omega (arith, ints, o);
  by = ordered;
  at_top = omega (arith, ints, o, top);
  over_top = omega (arith, ints, top);
}
  where
    ordered : (j : ℕ) → j < 4 → (slope_of (packing_form yl yh) j).lo ≤ℤ (slope_of (packing_form yl yh) j).hi
    ordered zero l = omega (arith, ints)
    ordered (suc zero) l = omega (arith, ints)
    ordered (suc (suc zero)) l = omega (arith, ints)
    ordered (suc (suc (suc zero))) l = omega (arith, ints)
    ordered (suc (suc (suc (suc j)))) l = absurd (omega (arith, l))

pub packing_shows : (n : ℕ) (r : Region) (g : State) (d : Steps) (z : ℕ → ℤ) → r.yhi ≤ one → IsState n g → IsWithin n r g → IsWithin n r (middle_state n r) → AreSteps n (middle_state n r) g d z →
    Shows (Some (packing_form r.ylo r.yhi)) d (constant (middle_state n r).packing) (constant g.packing)
packing_shows n r g d z top state within centre_within steps = record {
  form = λ h e. let k : packing_form r.ylo r.yhi ≡ h = cc in rw (← k) (is_form r.ylo r.yhi ordered top);
  means = λ h e. let k : packing_form r.ylo r.yhi ≡ h = cc in rw (← k) means;
}
  where
    ordered : r.ylo ≤ r.yhi
    ordered = let a = within.denser in let b = within.thinner in le_of_mul-le-mul_right {k = g.packing.den} (omega (arith, ints, a, b)) state.is_fraction

    between : (f : State) → 0 < f.packing.den → IsWithin n r f → IsBetween (ends (pos r.ylo) (pos r.yhi)) (2 ^ 40) f.packing
    between f pf w = record { is_fraction = pf; above = w.denser; below = w.thinner }

    means : Means (packing_form r.ylo r.yhi) d (constant (middle_state n r).packing) (constant g.packing)
    means =
        packing_means (pos ((r.ylo + r.yhi) / 2)) (pos r.ylo) (pos r.yhi) d (middle_state n r).packing g.packing (point_between ((r.ylo + r.yhi) / 2))
        (between (middle_state n r) (lit< tt) centre_within) (between g state.is_fraction within) steps.packing
