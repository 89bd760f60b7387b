-- The walk over the states of the feed in one phase on the surface of Peng and Robinson.
use Rattle.std.specs.Prelude.{ℕ, List, All}
use Rattle.case_types.specs.declared.cases.Case.{Case}
use Rattle.case_types.specs.Arithmetic.Numbers.{numbers_of}
use Rattle.fibre_bound.specs.declared.fibres.Fibre.{Fibre}
use Rattle.fibre_bound.specs.Walks.{IsFibre, question_of}
use Rattle.pr_surface.specs.PengRobinson.{surface_of}
use Rattle.split_energies.specs.Scanned.{IsInside}

-- it begins at the lowest state of some packing fractions and of half the densest packing
pub record IsPrWalk (c : Case) (tol budget units : ℕ) (f : Fibre) : Type 0 where
  pub packings : List ℕ
  pub inside : All IsInside packings
  pub fibre : IsFibre (question_of (surface_of (numbers_of c)) c packings tol) budget units f
