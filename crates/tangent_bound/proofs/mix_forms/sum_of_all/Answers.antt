use Rattle.std.proofs.Common.{rules, ◌≤◌, ◌<◌, ◌∙◌, length, ap₂, arith}
use Rattle.slope_form.specs.Arithmetic.{both, sum_of_ends}
use Rattle.tangent_bound.specs.SlopeParts.{entry}
use Rattle.tangent_bound.proofs.MixForms.{sum-none, sum-next, entry_of}
use Rattle.tangent_bound.proofs.mix_forms.sum_of_all.Goals as goal

pub loop-i-init : goal.loop-i-init
loop-i-init c = (sum-none (entry c.args.v.now), omega arith)

pub loop-i-preserved : goal.loop-i-preserved
loop-i-preserved c =
    let v = c.args.v.now in
    let i = c.loop-i.i in
    let four : 4 ≤ length v = search rules in
    let inside : i < length v = omega (arith, four, c.loop-i-test.true, c.requires) in
    (c.sum_of_both-all.ensures ∙ ap₂ (both sum_of_ends) c.loop-i.invariant.0 (entry_of v i c.index-v-i.result inside) ∙ sum-next i (entry v), omega (arith, c.loop-i-test.true))
