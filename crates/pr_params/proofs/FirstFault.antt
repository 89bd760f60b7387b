-- The first fault of a case, from what was tested in order.
use Rattle.std.proofs.Common.{◌≡◌, true, false, Some, None, refl}
use Rattle.case_types.specs.declared.cases.Case.{Case}
use Rattle.case_types.specs.declared.cases.ParamFault.{ParamFault}
use Rattle.case_types.specs.declared.cases.ParamFault.TheVariants.{BRange, BRatio}
use Rattle.case_types.specs.Arithmetic.Faults.{fault_of, covolumes_in_range, covolumes_are_near, first_below, alpha_fault, attraction_fault}
use Rattle.case_types.specs.Arithmetic.Numbers.{numbers_of}

pub range_fault : (c : Case) → covolumes_in_range c ≡ false → fault_of c ≡ Some BRange
unfolding fault_of
range_fault c h = rw h refl

pub ratio_fault : (c : Case) → covolumes_in_range c ≡ true → covolumes_are_near c ≡ false → fault_of c ≡ Some BRatio
unfolding fault_of
ratio_fault c h g = rw (h, g) refl

pub alpha_first : (c : Case) (f : ParamFault) → covolumes_in_range c ≡ true → covolumes_are_near c ≡ true →
    first_below c.n (alpha_fault (numbers_of c)) ≡ Some f → fault_of c ≡ Some f
unfolding fault_of
alpha_first c f h g e = rw (h, g, e) refl

-- the attractions alone decide where the other ranges hold
pub attractions_decide : (c : Case) → covolumes_in_range c ≡ true → covolumes_are_near c ≡ true → first_below c.n (alpha_fault (numbers_of c)) ≡ None →
    fault_of c ≡ first_below c.n (λ i. first_below c.n (attraction_fault (numbers_of c) i))
unfolding fault_of
attractions_decide c h g e = rw (h, g, e) refl
