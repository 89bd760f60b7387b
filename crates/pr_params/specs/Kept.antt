-- What a `Params` keeps: numbers and a lift, and nothing of components that aren't live.
use Rattle.std.specs.Prelude.{◌≡◌, ℕ, ◌<◌, ◌≤◌, List, IsTrue, IsFalse}
use Rattle.log_laws.specs.declared.iv.Iv.{Iv}
use Rattle.case_types.specs.declared.cases.Case.{Case}
use Rattle.case_types.specs.Arithmetic.Numbers.{Numbers, fits_lifted}
use Rattle.case_types.specs.Arithmetic.Tables.{ends_at, ends_of_pair, no_ends}
use Rattle.log_laws.specs.Sums.{all_below}
use Rattle.pr_params.specs.declared.numbers.Params.{Params}
use Rattle.pr_params.specs.Entries.{ends_of_all, ends_of_table}
use Rattle.pr_params.specs.Held.{numbers_in}

abbrev pub numbers_kept : Params → Numbers
numbers_kept p = numbers_in p.case.n p.lift p.two p.e p.m p.b p.h p.a p.rho

-- nothing is kept of components from n on
pub record IsVacant (n : ℕ) (vs : List Iv) : Type 0 where
  pub at : (i : ℕ) → n ≤ i → ends_at (ends_of_all vs) i ≡ no_ends

-- nor of pairs with one of them
pub record IsVacantTable (n : ℕ) (rows : List (List Iv)) : Type 0 where
  pub row_at : (i j : ℕ) → n ≤ i → ends_of_pair (ends_of_table rows) i j ≡ no_ends
  pub column_at : (i j : ℕ) → n ≤ j → ends_of_pair (ends_of_table rows) i j ≡ no_ends

pub record AreVacant (p : Params) : Type 0 where
  pub temperature_roots : IsVacant p.case.n p.t
  pub alpha_roots : IsVacant p.case.n p.m
  pub covolumes : IsVacant p.case.n p.b
  pub bare_attractions : IsVacantTable p.case.n p.h
  pub attractions : IsVacantTable p.case.n p.a

-- every covolume fits, and with no greater lift up to k do they all
pub record IsGreatestLift (c : Case) (k lift : ℕ) : Type 0 where
  pub within : lift ≤ k
  pub fits : IsTrue (all_below c.n (λ i. fits_lifted c lift i))
  pub greatest : (more : ℕ) → lift < more → more ≤ k → IsFalse (all_below c.n (λ i. fits_lifted c more i))
