use Rattle.std.proofs.Common.{◌+◌, ◌^◌, arith}
use Rattle.std.proofs.lemmas.Int.{ints}
use Rattle.candidate_split.proofs.Ranges.{below_at}
use Rattle.candidate_split.proofs.coefficients.potential_at.Goals as goal

pub overflow_cast-result : goal.overflow_cast-result
overflow_cast-result c = omega (arith, ints, below_at c.args.potentials.now (2 ^ 60 + 1) c.args.i c.requires.inside c.requires.potentials)

pub returns : goal.returns
returns c = omega (arith, ints, below_at c.args.potentials.now (2 ^ 60 + 1) c.args.i c.requires.inside c.requires.potentials)
