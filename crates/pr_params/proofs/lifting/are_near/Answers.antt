use Rattle.std.proofs.Common.{◌≡◌, sym, ◌∙◌, arith}
use Rattle.log_laws.proofs.Exports.{all_below-more, all_below-fails}
use Rattle.log_laws.specs.Sums.{all_below}
use Rattle.case_types.specs.Arithmetic.Faults.{is_near}
use Rattle.pr_params.proofs.lifting.are_near.Goals as goal

pub returns-then-not-all_are_near : goal.returns-then-not-all_are_near
returns-then-not-all_are_near c =
    sym (all_below-fails c.args.case.now.n (λ i. all_below c.args.case.now.n (is_near c.args.case.now i)) c.loop-i.i c.loop-i-test.true (sym c.all_are_near.ensures ∙ c.if-not-all_are_near.true))

pub loop-i-preserved : goal.loop-i-preserved
loop-i-preserved c = all_below-more c.loop-i.i (λ i. all_below c.args.case.now.n (is_near c.args.case.now i)) c.loop-i.invariant (sym c.all_are_near.ensures ∙ c.if-not-all_are_near.false)

pub returns : goal.returns
returns c =
    let end : c.loop-i.i ≡ c.args.case.now.n = omega arith in
    sym (rw end at c.loop-i.invariant)
