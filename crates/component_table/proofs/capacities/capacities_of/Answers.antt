use Rattle.std.proofs.Common.{◌∙◌, get_or, refl}
use Rattle.std.proofs.lemmas.List.{take_more, map-append}
use Rattle.std.proofs.lemmas.List.Folds.{list_all-append}
use Rattle.component_table.proofs.Heats.{capacity-in_range}
use Rattle.component_table.proofs.capacities.capacities_of.Goals as goal

pub loop-place-preserved : goal.loop-place-preserved
loop-place-preserved c =
    let places = c.args.places.now in
    let i = c.loop-place.place-index in
    let place = get_or places i 0 in
    let in_range = capacity-in_range c.args.cps.now place c.requires.range in
    record {
      value = c.push.ensures.items
          ∙ rw (c.loop-place.invariant.value, c.capacity.ensures, take_more places i 0 c.loop-place-test.true, map-append) refl;
      range = rw (c.push.ensures.items, list_all-append, c.loop-place.invariant.range, c.capacity.ensures, in_range) refl;
    }
