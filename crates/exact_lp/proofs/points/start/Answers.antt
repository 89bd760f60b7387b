use Rattle.exact_lp.proofs.StartBasis.{start_is_basis, start_is_optimal}
use Rattle.exact_lp.proofs.points.start.Goals as goal

pub returns-clause-basis : goal.returns-clause-basis
returns-clause-basis c = start_is_basis c.args._case.now

pub returns-clause-optimal : goal.returns-clause-optimal
returns-clause-optimal c = start_is_optimal c.args._case.now
