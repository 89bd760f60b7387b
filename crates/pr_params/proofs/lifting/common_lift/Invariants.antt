use Rattle.std.proofs.Common.{◌≡◌, ◌≤◌}
use Rattle.case_types.specs.Arithmetic.Numbers.{lift_of, lift_up_to}
use Rattle.pr_params.proofs.lifting.common_lift.Given as goal

abbrev pub invariant-loop-lift : goal.invariant-loop-lift
invariant-loop-lift l = (l.lift ≤ 29) × (lift_of l.case ≡ lift_up_to l.case l.lift)

abbrev pub decreases-loop-lift : goal.decreases-loop-lift
decreases-loop-lift l = l.lift
