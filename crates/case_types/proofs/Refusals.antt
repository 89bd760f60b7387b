-- Which range a sample case breaks first.
use Rattle.std.specs.Prelude.{◌≡◌, None, Some, refl}
use Rattle.log_laws.specs.Squaring.{down, up}
use Rattle.log_laws.specs.Roots.{root_digits, with_digit}
use Rattle.case_types.proofs.Samples.{ternary_case, negative_alpha_case, large_covolume_case, large_attraction_case, far_covolumes_case}
use Rattle.case_types.specs.declared.cases.ParamFault.TheVariants.{BRange, BRatio, MRange, ARange}
use Rattle.case_types.specs.Arithmetic.Faults.{fault_of, first_below}
use Rattle.case_types.specs.Arithmetic.Numbers.{numbers_of, enclosures_of, lift_up_to}
use Rattle.log_laws.specs.Sums.{list_below, greatest_below, least_below}

pub no_fault : fault_of ternary_case ≡ None
unfolding fault_of first_below numbers_of enclosures_of lift_up_to list_below greatest_below least_below root_digits with_digit down up
no_fault = refl

pub alpha_refused : fault_of negative_alpha_case ≡ Some (MRange 1)
unfolding fault_of first_below numbers_of enclosures_of lift_up_to list_below greatest_below least_below root_digits with_digit down up
alpha_refused = refl

pub covolume_refused : fault_of large_covolume_case ≡ Some BRange
unfolding fault_of first_below numbers_of enclosures_of lift_up_to list_below greatest_below least_below root_digits with_digit down up
covolume_refused = refl

pub attraction_refused : fault_of large_attraction_case ≡ Some (ARange 1 1)
unfolding fault_of first_below numbers_of enclosures_of lift_up_to list_below greatest_below least_below root_digits with_digit down up
attraction_refused = refl

pub ratio_refused : fault_of far_covolumes_case ≡ Some BRatio
unfolding fault_of first_below numbers_of enclosures_of lift_up_to list_below greatest_below least_below root_digits with_digit down up
ratio_refused = refl
