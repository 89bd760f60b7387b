use Rattle.std.proofs.Common.{◌^◌, ap, ◌∙◌, arith}
use Rattle.case_types.specs.declared.phases.Phase.{Phase}
use Rattle.case_types.specs.Arithmetic.Bounds.{box_of_parts}
use Rattle.case_types.proofs.Exports.{total_positive}
use Rattle.split_energies.proofs.Exports.{feed_parts_sum, feed_box_is}
use Rattle.fibre_bound.proofs.feeds.feed_box.Goals as goal

pub phase_box-requires-clause-some : goal.phase_box-requires-clause-some
phase_box-requires-clause-some c =
    let v = c.args.case.now in
    rw (c.feed_as_phase.ensures, feed_parts_sum v (2 ^ 39)) (omega (arith, total_positive v))

pub phase_box-requires-clause-small : goal.phase_box-requires-clause-small
phase_box-requires-clause-small c =
    let v = c.args.case.now in
    let high = v.total_high in
    rw (c.feed_as_phase.ensures, feed_parts_sum v (2 ^ 39)) (omega (arith, high))

pub returns : goal.returns
returns c =
    let v = c.args.case.now in
    c.phase_box.ensures.value ∙ ap (λ (f : Phase). box_of_parts v.n f.parts) c.feed_as_phase.ensures ∙ feed_box_is v (2 ^ 39)
