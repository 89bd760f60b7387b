-- How large the numbers of an answer are.
use Rattle.std.specs.Prelude.{ℕ, ◌≡◌, ◌^◌, ◌<◌, ◌≤◌, None, length, unsigned_abs}
use Rattle.case_types.specs.declared.answers.Answer.{Answer}
use Rattle.case_types.specs.declared.cases.Case.{Case}
use Rattle.case_types.specs.Arithmetic.Faults.{fault_of}
use Rattle.case_types.specs.Arithmetic.Numbers.{numbers_of}
use Rattle.energy_surface.specs.Lawful.{IsLawful}
use Rattle.pr_surface.specs.PengRobinson.{surface_of}

-- the upper energy, the low and the gap are of size below 2^80
pub record HasSmallNumbers (a : Answer) : Type 0 where
  pub u : unsigned_abs a.u < 2 ^ 80
  pub low : unsigned_abs a.low < 2 ^ 80
  pub gap : unsigned_abs a.gap < 2 ^ 80

-- those of a lawful answer of at most four phases are, whatever the tolerance, for the budgets of a flash
abbrev pub AnswersAreSmall : Type 0
AnswersAreSmall =
    (c : Case) (tol budget : ℕ) (a : Answer) → budget ≤ 10000000 → length a.split.phases.items ≤ 4 → fault_of c ≡ None →
    IsLawful (surface_of (numbers_of c)) c tol budget a → HasSmallNumbers a
