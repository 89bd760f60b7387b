use Rattle.fibre_bound.proofs.OnePhase.{fibres_hold}
use Rattle.fibre_bound.proofs.laws.fibres_hold.Goals as goal

pub returns : goal.returns
returns c = fibres_hold
