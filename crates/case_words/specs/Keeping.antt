-- What is kept of all that words have given.
use Rattle.std.specs.Prelude.{◌≡◌, ℕ, length, IsTrue, IfSome, Option}
use Rattle.std.specs.List.{list_all, sum}
use Rattle.case_words.specs.declared.boundaries.By.{By}
use Rattle.case_words.specs.declared.boundaries.By.TheVariants.{Pressure, Temperature}
use Rattle.case_words.specs.Counts.{are_ordered}
use Rattle.case_words.specs.Names.{is_name_length, are_different}
use Rattle.case_words.specs.Items.{is_within}
use Rattle.case_words.specs.Quantities.{least, greatest}
use Rattle.case_words.specs.Jobs.{Gathered}

-- a number that was given is in its range
abbrev pub IsGivenWithin : ℕ → ℕ → Option ℕ → Type 0
IsGivenWithin low high given = IfSome given (λ n. IsTrue (is_within low high n))

-- what a flash is asked of is in its range; names have 1 to 16 bytes and none stands twice, and there are as many names as parts
pub record KeepsFlash (g : Gathered) : Type 0 where
  pub t : IsGivenWithin (least Temperature) (greatest Temperature) g.t
  pub p : IsGivenWithin (least Pressure) (greatest Pressure) g.p
  pub total : IfSome g.z (λ z. IsTrue (is_within 1 1048576 (sum z)))
  pub differ : IfSome g.names (λ names. IsTrue (are_different names))
  pub named : IfSome g.names (λ names. IsTrue (list_all is_name_length names))
  pub as_many : IfSome g.z (λ z. IfSome g.names (λ names. length z ≡ length names))
  pub tol : IsGivenWithin 128 1048576 g.tol
  pub budget : IsGivenWithin 1 10000000 g.budget

-- the ends and the width of a search over this quantity are in their ranges, and the ends in order
pub record KeepsEnds (by : By) (g : Gathered) : Type 0 where
  pub lo : IsGivenWithin (least by) (greatest by) g.lo
  pub hi : IsGivenWithin (least by) (greatest by) g.hi
  pub ordered : IsTrue (are_ordered g.lo g.hi)
  pub width : IsGivenWithin 1 4294967295 g.width

-- all that words have given for a command that searches over this quantity
pub record IsKept (by : By) (g : Gathered) : Type 0 where
  pub flash : KeepsFlash g
  pub ends : KeepsEnds by g
