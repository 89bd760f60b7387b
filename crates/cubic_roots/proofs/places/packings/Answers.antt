use Rattle.case_types.specs.Arithmetic.Bounds.{box_of}
use Rattle.case_types.specs.Arithmetic.Numbers.{numbers_of}
use Rattle.cubic_roots.proofs.Roots.{all_change, some_place}
use Rattle.cubic_roots.proofs.places.packings.Goals as goal

pub returns-clause-some : goal.returns-clause-some
returns-clause-some c =
    let bends = c.bends-left in
    rw (c.both.ensures) (some_place c.middles_over-middles.result bends.result.0 bends.result.1 c.place.result c.place-2.result bends.ensures.either c.place.ensures c.place-2.ensures)

pub returns-clause-changes : goal.returns-clause-changes
returns-clause-changes c =
    let middles = c.middles_over-middles in
    let bends = c.bends-left in
    rw (c.both.ensures) (all_change middles.result (numbers_of c.args.params.now.case) (box_of c.args.x.now) bends.result.0 bends.result.1 c.place.result c.place-2.result
    middles.ensures.covolume middles.ensures.ratio c.place.ensures c.place-2.ensures)
