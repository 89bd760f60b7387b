use Rattle.std.proofs.Common.{◌≡◌, sym, ◌∙◌, arith}
use Rattle.log_laws.proofs.Exports.{all_below-more, all_below-fails}
use Rattle.case_types.specs.Arithmetic.Faults.{is_near}
use Rattle.pr_params.proofs.lifting.all_are_near.Goals as goal

pub returns-then-not-near : goal.returns-then-not-near
returns-then-not-near c =
    sym (all_below-fails c.args.case.now.n (is_near c.args.case.now c.args.i) c.loop-j.j c.loop-j-test.true (sym c.near.ensures ∙ c.if-not-near.true))

pub loop-j-preserved : goal.loop-j-preserved
loop-j-preserved c = all_below-more c.loop-j.j (is_near c.args.case.now c.args.i) c.loop-j.invariant (sym c.near.ensures ∙ c.if-not-near.false)

pub returns : goal.returns
returns c =
    let end : c.loop-j.j ≡ c.args.case.now.n = omega arith in
    sym (rw end at c.loop-j.invariant)
