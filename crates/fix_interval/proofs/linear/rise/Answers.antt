use Rattle.std.proofs.Common.{◌∙◌, pos, ◌≤ℤ◌, arith}
use Rattle.std.proofs.lemmas.Int.{ints}
use Rattle.log_laws.proofs.Exports.{back, greater_end-high}
use Rattle.fix_interval.proofs.linear.rise.Goals as goal

pub returns-else-step-lt0-clause-value : goal.returns-else-step-lt0-clause-value
returns-else-step-lt0-clause-value c =
    let p = c.product-else-step-lt0.ensures.small in
    let s = back c.args.step (omega (arith, c.requires.step)) in
    let e = rw s at c.product-else-step-lt0.ensures.value in
    let h : pos 0 ≤ℤ c.args.step = omega (arith, ints, rw s at c.if-step-lt0.false) in
    back c.product-else-step-lt0.result (omega (arith, p)) ∙ e ∙ greater_end-high c.args.step c.args.lo c.args.hi c.requires.ordered h
