use Rattle.std.proofs.Common.{slice_index, arith}
use Rattle.log_laws.proofs.Exports.{le-sum_below}
use Rattle.candidate_split.proofs.grid.fraction.Goals as goal

pub share-requires-clause-inside : goal.share-requires-clause-inside
share-requires-clause-inside c =
    let part = le-sum_below c.args.n c.args.i (slice_index c.args.parts.now) c.if-i-n.true in
    omega (arith, part, c.requires.sum)
