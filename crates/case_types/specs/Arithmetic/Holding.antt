-- What the whole numbers of a case hold: the parameters of an instance, and its means over the compositions of a box.
use Rattle.std.specs.Prelude.{ℕ, ◌+◌, ◌*◌, ◌^◌, ◌<◌, ◌≤◌, slice_index}
use Rattle.log_laws.specs.Between.{IsBetween}
use Rattle.log_laws.specs.Fraction.{Fraction, IsAtMost, quotient_of}
use Rattle.case_types.specs.declared.cases.Case.{Case}
use Rattle.case_types.specs.Arithmetic.Bounds.{Box, one, covolume_range, ratio_low, ratio_high}
use Rattle.case_types.specs.Energy.Divisions.{State, moles, bits, mean_covolume, mean_attraction}
use Rattle.case_types.specs.Energy.Instances.{Instance}
use Rattle.case_types.specs.Arithmetic.Numbers.{Numbers}
use Rattle.case_types.specs.Energy.Parameters.{alpha_root, covolume, bare_attraction, attraction}
use Rattle.case_types.specs.Arithmetic.Tables.{ends_at, ends_of_pair}

-- the ends hold the roots, log2 e and the parameters that the instance makes of them
pub record HoldsParameters (c : Case) (p : Numbers) (x : Instance) : Type 0 where
  pub root_two : IsBetween p.root_two (2 ^ 60) x.root_two
  pub log_e : IsBetween p.log_e (2 ^ 40) x.log_e
  pub alpha_root : (i : ℕ) → i < c.n → IsBetween (ends_at p.alpha_roots i) (2 ^ 48) (alpha_root c x i)
  pub covolume : (i : ℕ) → i < c.n → IsBetween (ends_at p.covolumes i) (2 ^ (56 + p.lift)) (covolume c i)
  pub bare_attraction : (i j : ℕ) → i < c.n → j < c.n →
      IsBetween (ends_of_pair p.bare_attractions i j) (2 ^ (47 + p.lift)) (bare_attraction c x i j)
  pub attraction : (i j : ℕ) → i < c.n → j < c.n →
      IsBetween (ends_of_pair p.attractions i j) (2 ^ (49 + p.lift)) (attraction c x i j)

-- the composition of the phase lies in the box
pub record IsInBox (n : ℕ) (x : Box) (f : State) : Type 0 where
  pub above : (i : ℕ) → i < n → slice_index x.lo i * moles n f ≤ f.parts i * one
  pub below : (i : ℕ) → i < n → f.parts i * one ≤ slice_index x.hi i * moles n f

-- A over B
abbrev pub attraction_ratio : Case → Instance → State → Fraction
attraction_ratio c x f = quotient_of (mean_attraction c x f) (mean_covolume c f)

-- the ends hold the means of the phase
pub record HoldsMeans (c : Case) (p : Numbers) (x : Instance) (box : Box) (f : State) : Type 0 where
  pub covolume : IsBetween (covolume_range p box) (2 ^ (56 + p.lift)) (mean_covolume c f)
  pub ratio_low : IsAtMost (bits (ratio_low p box)) (attraction_ratio c x f)
  pub ratio_high : IsAtMost (attraction_ratio c x f) (bits (ratio_high p box))
