-- What a round leaves in the lists of work.
use Rattle.std.specs.Prelude.{ℕ, ◌≡◌, List, [], ◌∷◌, ◌++◌, length, ℤ}
use Rattle.case_types.specs.Spared.{Spared}
use Rattle.case_types.specs.declared.answers.Work.{Work}
use Rattle.case_types.specs.declared.planes.Plane.{Plane}
use Rattle.case_types.specs.declared.rounds.Column.{Column}
use Rattle.case_types.specs.declared.rounds.Round.{Round}
use Rattle.case_types.specs.declared.rounds.RoundEnd.{RoundEnd}
use Rattle.energy_surface.specs.declared.found.Found.{Found}
use Rattle.energy_surface.specs.declared.found.Found.TheVariants.{AllClear, Refuted, Spent, Grain}
use Rattle.energy_surface.specs.Rounds.{round_end}
use Rattle.energy_surface.specs.Surfaces.{Under}
use Rattle.box_search.specs.Written.{Writes, Searches}

-- the column that a search finds
abbrev pub columns_of : Found → List Column
columns_of (AllClear low) = []
columns_of (Refuted column) = column ∷ []
columns_of (Spent low) = []
columns_of (Grain low cell) = []

-- a plane with the lists before its search, and the letters after it
abbrev pub round_noted : Plane → ℤ → Work → Spared ℕ → RoundEnd → Round
round_noted plane u before letters end = record {
  plane = plane;
  u = u;
  columns = length before.columns.items;
  pivots = length before.pivots.items;
  from = length before.letters.items;
  to = length letters.items;
  end = end;
}

-- a search under the plane went on from the lists of work, with its mark and the column that cuts the plane off
pub record MakesRound (u : Under) (plane : Plane) (up : ℤ) (old new : Work) (units : ℕ) (found : Found) : Type 0 where
  pub letters : Writes old.letters new.letters units
  pub searched : Searches u old.letters.items new.letters.items units found
  pub noted : new.rounds.items ≡ old.rounds.items ++ round_noted plane up old new.letters (round_end found) ∷ []
  pub kept : new.columns.items ≡ old.columns.items ++ columns_of found
  pub pivots : new.pivots ≡ old.pivots
