use Rattle.std.proofs.Common.{arith}
use Rattle.std.proofs.lemmas.Int.{ints}
use Rattle.tangent_bound.proofs.from_parts.log_covolume.Goals as goal

pub returns-clause-small : goal.returns-clause-small
returns-clause-small c = let p = c.upper.ensures.small in omega (arith, ints, p.0, p.1)
