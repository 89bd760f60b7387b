-- What ends a search at a place, or before its ends are near one another.
use Rattle.std.specs.Prelude.{ℕ, ◌≡◌}
use Rattle.case_types.specs.declared.edges.EdgeAnswer.{EdgeAnswer}
use Rattle.case_types.specs.declared.edges.EdgeAnswer.TheVariants.{Bracket, NoEdge, Stopped, Refused}
use Rattle.case_types.specs.declared.edges.EdgeEnd.{EdgeEnd}
use Rattle.case_types.specs.Brackets.{Search}
use Rattle.edge_flash.specs.declared.classed.Classed.{Classed}
use Rattle.edge_flash.specs.declared.classed.Classed.TheVariants.{Open, Param}
use Rattle.edge_flash.specs.declared.halts.Halt.{Halt}
use Rattle.edge_flash.specs.declared.halts.Halt.TheVariants.{Memory, Answer}
use Rattle.edge_flash.specs.Places.{Bisected, EnclosesIfBracket}

-- the answer is one of the search, and no bracket unless it encloses a boundary
abbrev pub Halted : (ℕ → Classed → Type 0) → Search EdgeEnd → Halt → Type 0
Halted says s (Memory fault) = Unit {0}
Halted says s (Answer answer) = Bisected says s answer × EnclosesIfBracket s answer

-- what is said of the place is open, or a refusal
abbrev pub TellsOf : (ℕ → Classed → Type 0) → ℕ → EdgeAnswer → Type 0
TellsOf says place (Bracket lo hi) = ⊥
TellsOf says place (NoEdge lo hi) = ⊥
TellsOf says place (Stopped at outcome units) = (at ≡ place) × says place (Open outcome units)
TellsOf says place (Refused at fault) = (at ≡ place) × says place (Param fault)

abbrev pub HaltsAt : (ℕ → Classed → Type 0) → ℕ → Halt → Type 0
HaltsAt says place (Memory fault) = Unit {0}
HaltsAt says place (Answer answer) = TellsOf says place answer
