-- The letters of lawful answers.
use Rattle.std.specs.Prelude.{ℕ, ◌≤◌, ◌*◌, ◌+◌, length}
use Rattle.case_types.specs.declared.answers.Answer.{Answer}
use Rattle.case_types.specs.declared.cases.Case.{Case}
use Rattle.energy_surface.specs.Lawful.{IsLawful}
use Rattle.energy_surface.specs.Surfaces.{Surface}
use Rattle.cert_letters.specs.Searched.{AreOfTree}
use Rattle.cert_format.specs.Writing.{last_letters}

-- the letters of the last round of a lawful answer write a tree whose leaves have lows of at least the answer's, with at most two
-- letters for each unit and one more
pub record AreLastLetters (s : Surface) (budget : ℕ) (a : Answer) : Type 0 where
  pub written : AreOfTree s a.plane.lam a.low (last_letters a.work)
  pub some : 1 ≤ length (last_letters a.work)
  pub few : length (last_letters a.work) ≤ 2 * budget + 1

abbrev pub AnswersWriteTrees : Type 0
AnswersWriteTrees =
    (s : Surface) (c : Case) (tol budget : ℕ) (a : Answer) → 1 ≤ s.count → s.count ≤ 4 → IsLawful s c tol budget a → AreLastLetters s budget a
