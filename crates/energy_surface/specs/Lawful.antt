-- What makes an answer lawful: a test of the finished lists of its work.
use Rattle.std.specs.Prelude.{ℕ, ◌≡◌, ◌+◌, ◌^◌, ◌<◌, ◌≤◌, if◌then◌else◌, nat_eq, List, [], ◌∷◌, ◌++◌, length, All, Some, ℤ, ◌≤ℤ◌, unsigned_abs}
use Rattle.case_types.specs.declared.answers.Answer.{Answer}
use Rattle.case_types.specs.declared.answers.Work.{Work}
use Rattle.case_types.specs.declared.cases.Case.{Case}
use Rattle.case_types.specs.declared.phases.Phase.{Phase}
use Rattle.case_types.specs.declared.planes.Plane.{Plane}
use Rattle.case_types.specs.declared.rounds.Column.{Column}
use Rattle.case_types.specs.declared.rounds.Round.{Round}
use Rattle.case_types.specs.Arithmetic.Splits.{phase_up}
use Rattle.case_types.specs.Grid.Visits.{edges_in}
use Rattle.energy_surface.specs.declared.found.Found.{Found}
use Rattle.energy_surface.specs.Columns.{IsColumn, point_up}
use Rattle.energy_surface.specs.Outcomes.{IsAnswer, outcome_of}
use Rattle.energy_surface.specs.Program.Bases.{column_at, start_places}
use Rattle.energy_surface.specs.Rounds.{Start, own_of, IsRound, AreRefuted}
use Rattle.energy_surface.specs.Searches.{low_of}
use Rattle.energy_surface.specs.Surfaces.{Surface}

-- the composition of the component k alone, in 2^-20
abbrev pub pure_composition : ℕ → List ℕ
pure_composition k =
    (if nat_eq k 0 then 2 ^ 20 else 0) ∷ (if nat_eq k 1 then 2 ^ 20 else 0) ∷ (if nat_eq k 2 then 2 ^ 20 else 0) ∷ (if nat_eq k 3 then 2 ^ 20 else 0) ∷ []

-- the component alone, with an energy of at most that at half the densest packing
pub record IsPureColumn (s : Surface) (k : ℕ) (col : Column) : Type 0 where
  pub alone : col.comp ≡ pure_composition k
  pub no_higher : col.up ≤ℤ point_up s (record { composition = pure_composition k; packing = 2 ^ 39 })

-- the pure columns and these candidates are there before the first round, and the basis is that of the pure columns
abbrev pub beginning : ℕ → ℕ → Start
beginning n candidates = record { columns = n + candidates; pivots = 0; letters = 0; basis = start_places }

-- a list of work by its rounds, each with its cause; the last one has this basis, this plane and this upper energy, and its search
-- ends so
pub record IsListOfWork (s : Surface) (c : Case) (tol spent : ℕ) (w : Work) (basis : List ℕ) (tangent : Plane) (up : ℤ) (found : Found) : Type 0 where
  -- the columns: the pure ones first, then candidates, then one for each plane that is cut off
  pub columns : All (λ (col : Column). IsColumn s col) w.columns.items
  pub pure : (k : ℕ) → k < c.n → IsPureColumn s k (column_at w.columns.items k)
  pub candidates : ℕ
  pub few_candidates : candidates ≤ 32
  -- the rounds: the planes of all but the last are cut off
  pub earlier : List Round
  pub last : Round
  pub rounds : w.rounds.items ≡ earlier ++ last ∷ []
  pub start : Start
  pub refuted : AreRefuted s c tol w (beginning c.n candidates) earlier start
  -- the last round takes the rest of the lists
  pub ends : IsRound s c tol start (own_of w start last) last basis found
  pub all_columns : last.columns ≡ length w.columns.items
  pub all_pivots : last.pivots ≡ length w.pivots.items
  pub all_letters : last.to ≡ length w.letters.items
  pub plane : tangent ≡ last.plane
  pub u : up ≡ last.u
  -- the units: halvings, refutations and pivots
  pub units : edges_in w.letters.items + length earlier + length w.pivots.items ≡ spent

-- every step of the list of work has its cause, and the answer is that of the last round
pub record IsLawful (s : Surface) (c : Case) (tol budget : ℕ) (a : Answer) : Type 0 where
  pub answer : IsAnswer s c tol budget a
  pub basis : List ℕ
  pub found : Found
  pub work : IsListOfWork s c tol a.units a.work basis a.plane a.u found
  pub outcome : outcome_of found ≡ Some a.outcome
  pub low : low_of found ≡ Some a.low
  pub phases : All (λ (f : Phase). unsigned_abs (phase_up s.count s.up f) < 2 ^ 49) a.split.phases.items
