use Rattle.std.proofs.Common.{arith}
use Rattle.candidate_split.proofs.Phases.{same_sum}
use Rattle.candidate_split.proofs.places.packing_at.Goals as goal

pub settled-requires-clause-some : goal.settled-requires-clause-some
settled-requires-clause-some c =
    let case = c.args.params.now.case in
    omega (arith, same_sum case.n c.in_parts.result c.args.comp.now case.few c.in_parts.ensures, c.requires.whole)

pub settled-requires-clause-small : goal.settled-requires-clause-small
settled-requires-clause-small c =
    let case = c.args.params.now.case in
    omega (arith, same_sum case.n c.in_parts.result c.args.comp.now case.few c.in_parts.ensures, c.requires.whole)
