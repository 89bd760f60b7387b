use Rattle.chem_potential.proofs.Four.{all_small, all_vacant}
use Rattle.chem_potential.proofs.near.mu_near.Goals as goal

pub returns-clause-small : goal.returns-clause-small
returns-clause-small c =
    all_small c.potential.result c.potential-2.result c.potential-3.result c.potential-4.result
    c.potential.ensures.small c.potential-2.ensures.small c.potential-3.ensures.small c.potential-4.ensures.small

pub returns-clause-vacant : goal.returns-clause-vacant
returns-clause-vacant c =
    all_vacant c.args.params.now.case.n c.potential.result c.potential-2.result c.potential-3.result c.potential-4.result
    c.potential.ensures.vacant c.potential-2.ensures.vacant c.potential-3.ensures.vacant c.potential-4.ensures.vacant
