-- What was chosen, as the definitions see it.
use Rattle.component_table.specs.declared.chosen.Chosen.{Chosen}
use Rattle.component_table.specs.Choosing.{PlainChosen}

-- the three lists
abbrev pub plain_chosen : Chosen → PlainChosen
plain_chosen c = record { live = c.live.items; places = c.places.items; parts = c.parts.items }
