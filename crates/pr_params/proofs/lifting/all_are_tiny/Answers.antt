use Rattle.std.proofs.Common.{◌≡◌, sym, ◌∙◌, arith}
use Rattle.log_laws.proofs.Exports.{all_below-more, all_below-fails}
use Rattle.case_types.specs.Arithmetic.Faults.{is_tiny}
use Rattle.pr_params.proofs.lifting.all_are_tiny.Goals as goal

pub returns-then-not-tiny : goal.returns-then-not-tiny
returns-then-not-tiny c =
    sym (all_below-fails c.args.case.now.n (is_tiny c.args.case.now) c.loop-i.i c.loop-i-test.true (sym c.tiny.ensures ∙ c.if-not-tiny.true))

pub loop-i-preserved : goal.loop-i-preserved
loop-i-preserved c = all_below-more c.loop-i.i (is_tiny c.args.case.now) c.loop-i.invariant (sym c.tiny.ensures ∙ c.if-not-tiny.false)

pub returns : goal.returns
returns c =
    let end : c.loop-i.i ≡ c.args.case.now.n = omega arith in
    sym (rw end at c.loop-i.invariant)
