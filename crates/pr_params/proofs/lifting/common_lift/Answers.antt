use Rattle.std.proofs.Common.{◌≡◌, sym, ◌∙◌, ap, arith}
use Rattle.case_types.specs.Arithmetic.Numbers.{lift_up_to}
use Rattle.pr_params.proofs.GreatestLift.{lift_here, lift_lower, lift_none}
use Rattle.pr_params.proofs.lifting.common_lift.Goals as goal

pub loop-lift-preserved : goal.loop-lift-preserved
loop-lift-preserved c =
    (omega (arith, c.loop-lift.invariant.0), c.loop-lift.invariant.1 ∙ lift_lower c.args.case.now c.loop-lift.lift c.loop-lift-test.true (sym c.all_fit.ensures ∙ c.if-all_fit.false))

pub returns-then-all_fit-clause-value : goal.returns-then-all_fit-clause-value
returns-then-all_fit-clause-value c =
    sym (c.loop-lift.invariant.1 ∙ lift_here c.args.case.now c.loop-lift.lift c.loop-lift-test.true (sym c.all_fit.ensures ∙ c.if-all_fit.true))

pub returns-clause-value : goal.returns-clause-value
returns-clause-value c =
    let end : c.loop-lift.lift ≡ 0 = omega arith in
    sym (c.loop-lift.invariant.1 ∙ ap (λ k. lift_up_to c.args.case.now k) end ∙ lift_none c.args.case.now)
