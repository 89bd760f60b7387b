-- What a list of ends says of places.
use Rattle.std.specs.Prelude.{ℕ, ◌==◌, if◌then◌else◌, List, [], ◌∷◌}
use Rattle.case_types.specs.declared.answers.Outcome.TheVariants.{Spent}
use Rattle.case_types.specs.declared.edges.EdgeEnd.{EdgeEnd}
use Rattle.edge_flash.specs.declared.classed.Classed.{Classed}
use Rattle.edge_flash.specs.declared.classed.Classed.TheVariants.{End, Open}

-- the first end at the place; where there is none, that a budget of no units is spent
unfoldable pub first_at : List EdgeEnd → ℕ → Classed
first_at [] place = Open Spent 0
first_at (end ∷ ends) place = if end.at == place then End end else first_at ends place
