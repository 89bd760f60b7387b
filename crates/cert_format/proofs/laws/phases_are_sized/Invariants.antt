use Rattle.std.proofs.Common.{◌≡◌, length, take}
use Rattle.std.specs.List.{All}
use Rattle.case_types.specs.declared.phases.Phase.{Phase}
use Rattle.cert_format.proofs.laws.phases_are_sized.Given as goal

abbrev pub invariant-loop-phase : goal.invariant-loop-phase
invariant-loop-phase l = All (λ (f : Phase). length f.parts ≡ 4) (take l.phase-index l.phases)
