use Rattle.std.proofs.Common.{arith}
use Rattle.candidate_split.proofs.FeedParts.{enough, quotient_some}
use Rattle.candidate_split.proofs.shares.share_of.Goals as goal

pub lesser-requires-clause-b : goal.lesser-requires-clause-b
lesser-requires-clause-b c =
    let r = c.requires in
    let full = enough c.args.case.now c.args.i c.args.y.now r.live r.composition in
    rw c.part_of_feed.ensures.value (quotient_some _ _ (omega arith) full)
