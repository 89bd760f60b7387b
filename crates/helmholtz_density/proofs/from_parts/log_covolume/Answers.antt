use Rattle.std.proofs.Common.{arith}
use Rattle.std.proofs.lemmas.Int.{ints}
use Rattle.helmholtz_density.proofs.from_parts.log_covolume.Goals as goal

pub returns-clause-small : goal.returns-clause-small
returns-clause-small c =
    let p = c.lower.ensures.from_power 49 c.requires.low in
    let q = c.lower.ensures.to_power 62 (omega (arith, c.requires.high)) in
    omega (arith, ints, p, q, c.raised_by.ensures.small)
