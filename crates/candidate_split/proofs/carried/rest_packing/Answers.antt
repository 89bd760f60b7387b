use Rattle.std.proofs.Common.{◌^◌, arith}
use Rattle.candidate_split.proofs.TwoPhases.{liquid_counted}
use Rattle.candidate_split.proofs.carried.rest_packing.Goals as goal

pub settled-requires-clause-some : goal.settled-requires-clause-some
settled-requires-clause-some c =
    let r = c.requires in
    rw c.liquid_of.ensures
    (liquid_counted c.args.params.now.case c.args.share c.args.comp.now (2 ^ 39) r.composition r.fits (omega arith) (omega arith) (omega arith)).some

pub settled-requires-clause-small : goal.settled-requires-clause-small
settled-requires-clause-small c =
    let r = c.requires in
    rw c.liquid_of.ensures
    (liquid_counted c.args.params.now.case c.args.share c.args.comp.now (2 ^ 39) r.composition r.fits (omega arith) (omega arith) (omega arith)).small
