-- Cases, splits and planes that agree in what n live components have.
use Rattle.std.specs.Prelude.{ℕ, ◌<◌, ◌≡◌, List, [], ◌∷◌, ℤ, slice_index}
use Rattle.case_types.specs.declared.cases.Case.{Case}
use Rattle.case_types.specs.declared.phases.Phase.{Phase}
use Rattle.case_types.specs.Arithmetic.Bounds.{potential}
use Rattle.case_types.specs.Energy.Components.{critical_temperature, critical_pressure, acentric_factor, interaction, feed}

-- the same live components, at the same conditions and by the same edition
pub record AreCasesSame (c d : Case) : Type 0 where
  pub count : c.n ≡ d.n
  pub temperature : c.t ≡ d.t
  pub pressure : c.p ≡ d.p
  pub edition : c.edition ≡ d.edition
  pub total : c.total ≡ d.total
  pub tc : (i : ℕ) → i < c.n → critical_temperature c i ≡ critical_temperature d i
  pub pc : (i : ℕ) → i < c.n → critical_pressure c i ≡ critical_pressure d i
  pub w : (i : ℕ) → i < c.n → acentric_factor c i ≡ acentric_factor d i
  pub k : (i j : ℕ) → i < c.n → j < c.n → interaction c i j ≡ interaction d i j
  pub z : (i : ℕ) → i < c.n → feed c i ≡ feed d i

-- the packing fraction and the parts of n components are the same
pub record IsPhaseSame (n : ℕ) (f g : Phase) : Type 0 where
  pub packing : f.packing ≡ g.packing
  pub parts : (i : ℕ) → i < n → slice_index f.parts i ≡ slice_index g.parts i

-- as many phases, each the same
unfoldable pub ArePhasesSame : ℕ → List Phase → List Phase → Type 0
ArePhasesSame n [] [] = Unit {0}
ArePhasesSame n [] (g ∷ gs) = ⊥
ArePhasesSame n (f ∷ fs) [] = ⊥
ArePhasesSame n (f ∷ fs) (g ∷ gs) = IsPhaseSame n f g × ArePhasesSame n fs gs

-- the potentials of n components are the same
abbrev pub ArePotentialsSame : ℕ → List ℤ → List ℤ → Type 0
ArePotentialsSame n lam mu = (i : ℕ) → i < n → potential lam i ≡ potential mu i
