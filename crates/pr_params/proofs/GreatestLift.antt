-- The lift of a case is the greatest with which every co-volume fits.
use Rattle.std.proofs.Common.{◌≡◌, ℕ, zero, suc, ◌-◌, ◌*◌, ◌^◌, ◌<◌, ◌≤◌, Bool, true, false, not, cond, IsTrue, refl, arith, inl, inr, None}
use Rattle.std.proofs.lemmas.Bool.{cases_lt}
use Rattle.log_laws.proofs.Exports.{all_below-at, and_true}
use Rattle.case_types.specs.declared.cases.Case.{Case}
use Rattle.case_types.specs.Arithmetic.Faults.{fault_of, covolumes_in_range, is_tiny}
use Rattle.case_types.specs.Arithmetic.Numbers.{lift_up_to, lift_of, fits_lifted}
use Rattle.case_types.specs.Energy.Parameters.{covolume_num, covolume_den}
use Rattle.log_laws.specs.Sums.{all_below}
use Rattle.pr_params.specs.Kept.{IsGreatestLift}
use Rattle.pr_params.proofs.Component.{at_most}
use Rattle.pr_params.proofs.Sizes.{or_where}

-- a test whose opposite is false is true
pub true_of : (b : Bool) → not b ≡ false → IsTrue b
true_of true e = refl
true_of false e = absurd (cc e)

-- every co-volume fits with no lift
fits_unlifted : (c : Case) → IsTrue (covolumes_in_range c) → IsTrue (all_below c.n (fits_lifted c 0))
fits_unlifted c range = (and_true (all_below c.n (fits_lifted c 0)) (not (all_below c.n (is_tiny c))) range).0

pub greatest_up_to : (c : Case) (k : ℕ) → IsTrue (all_below c.n (λ i. fits_lifted c 0 i)) → IsGreatestLift c k (lift_up_to c k)
unfolding lift_up_to
greatest_up_to c zero h = record { within = omega arith; fits = h; greatest = λ more l m. absurd (omega (arith, l, m)) }
greatest_up_to c (suc k) h = step (all_below c.n (λ i. fits_lifted c (suc k) i)) refl (lift_up_to c k) (greatest_up_to c k h)
  where
    step : (b : Bool) → all_below c.n (λ i. fits_lifted c (suc k) i) ≡ b → (lift : ℕ) → IsGreatestLift c k lift → IsGreatestLift c (suc k) (cond b (suc k) lift)
    step true e lift g = record { within = omega arith; fits = rw e refl; greatest = λ more l m. absurd (omega (arith, l, m)) }
    step false e lift g = record {
      within = omega (arith, g.within);
      fits = g.fits;
      greatest = λ more l m.
          elim (cases_lt k more) [
            | inl above ↦ let is : more ≡ suc k = omega (arith, above, m) in rw is e
            | inr below ↦ g.greatest more l below
          ];
    }

pub lift_greatest : (c : Case) → fault_of c ≡ None → IsGreatestLift c 29 (lift_of c)
unfolding fault_of
lift_greatest c e = greatest_up_to c 29 (fits_unlifted c (true_of (covolumes_in_range c) (or_where _ _ _ e).0))

-- every co-volume of a case in its range fits with the lift
pub fits_at : (c : Case) (i : ℕ) → IsTrue (covolumes_in_range c) → i < c.n → covolume_num c i * 2 ^ lift_of c ≤ 32 * covolume_den c i
fits_at c i h l =
    at_most (covolume_num c i * 2 ^ lift_of c) (32 * covolume_den c i)
    (all_below-at c.n (fits_lifted c (lift_of c)) i l (greatest_up_to c 29 (fits_unlifted c h)).fits)

-- ---- step by step from above
-- where all co-volumes fit, the lift is found, and elsewhere it is less
pub lift_here : (c : Case) (k : ℕ) → 0 < k → all_below c.n (fits_lifted c k) ≡ true → lift_up_to c k ≡ k
unfolding lift_up_to
lift_here c zero h e = absurd (omega (arith, h))
lift_here c (suc k) h e = rw e refl

pub lift_lower : (c : Case) (k : ℕ) → 0 < k → all_below c.n (fits_lifted c k) ≡ false → lift_up_to c k ≡ lift_up_to c (k - 1)
unfolding lift_up_to
lift_lower c zero h e = absurd (omega (arith, h))
lift_lower c (suc k) h e = let same : suc k - 1 ≡ k = omega arith in rw (e, same) refl

pub lift_none : (c : Case) → lift_up_to c 0 ≡ 0
unfolding lift_up_to
lift_none c = refl
