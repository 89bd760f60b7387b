use Rattle.std.proofs.Common.{arith}
use Rattle.exact_lp.proofs.AfterPivot.{pivot_keeps}
use Rattle.exact_lp.proofs.pivoting.pivot.Goals as goal

pub bounds-basis-leave : goal.bounds-basis-leave
bounds-basis-leave c = omega (arith, c.leaving-leave.ensures.place, c.args.case.now.few)

pub returns-clause-kept : goal.returns-clause-kept
returns-clause-kept c =
    pivot_keeps c.args.case.now c.args.columns.now.items c.args.basis.now.at c.args.enter c.leaving-leave.result c.requires.basis c.requires.inside (omega (arith, c.leaving-leave.ensures.place, c.args.case.now.few)) c.leaving-leave.ensures
