use Rattle.std.proofs.Common.{◌≡◌, length, subst}
use Rattle.std.specs.List.{All}
use Rattle.std.proofs.lemmas.List.{take_all}
use Rattle.std.proofs.lemmas.List.Elements.{All-more}
use Rattle.case_types.specs.declared.phases.Phase.{Phase}
use Rattle.cert_format.proofs.laws.phases_are_sized.Goals as goal

pub loop-phase-preserved : goal.loop-phase-preserved
loop-phase-preserved c =
    All-more (λ (f : Phase). length f.parts ≡ 4) c.args.phases.now c.loop-phase.phase-index _ c.loop-phase-test.true c.loop-phase.invariant c.parts_are_four.ensures

pub returns : goal.returns
returns c =
    subst (All (λ (f : Phase). length f.parts ≡ 4)) (take_all c.loop-phase.phase-index c.args.phases.now c.loop-phase-test.false) c.loop-phase.invariant
