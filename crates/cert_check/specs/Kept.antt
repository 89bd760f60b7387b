-- What is kept of the last leaf, so that a leaf of the same compositions or packing fractions doesn't make it again.
use Rattle.std.specs.Prelude.{◌≡◌, ◌⊎◌, ℕ, List, ℤ, None, IfSome}
use Rattle.case_types.specs.declared.cases.Case.{Case}
use Rattle.case_types.specs.Arithmetic.Numbers.{numbers_of}
use Rattle.case_types.specs.Grid.Cells.{Region}
use Rattle.box_search.specs.Parts.{Meanings, meanings, IsOverBox}
use Rattle.helmholtz_density.specs.Parts.{IsMixUp}
use Rattle.pr_params.specs.Packings.{ArePackingLogs}
use Rattle.tangent_bound.specs.Parts.{IsMixLow}
use Rattle.tangent_bound.specs.SlopeParts.{IsMixSlope, IsPackingSlope}
use Rattle.cert_check.specs.declared.kept.Kept.{Kept}

-- each part is that of the ends of the free fractions that are kept with it, or of its own packing fraction
pub record IsKept (m : Meanings) (lam : List ℤ) (k : Kept) : Type 0 where
  pub over : IfSome k.over (λ over. (r : Region) → r.lo ≡ k.lo → r.hi ≡ k.hi → IsOverBox m lam r over)
  pub slope : IfSome k.slope (λ slope. m.is_mix_slope lam k.lo k.hi slope)
  pub from : IfSome k.from (λ logs. m.are_logs logs.packing logs)
  pub to : IfSome k.to (λ logs. m.are_logs logs.packing logs)

-- kept of these ends of the free fractions: all that was, where they were the same, and nothing of other ones
pub record Turns (lo hi : List ℕ) (k l : Kept) : Type 0 where
  pub lo_is : l.lo ≡ lo
  pub hi_is : l.hi ≡ hi
  pub same : (l ≡ k) ⊎ ((l.over ≡ None) × (l.slope ≡ None) × (l.from ≡ k.from) × (l.to ≡ k.to))

-- so it is over the surface of Peng and Robinson of a case
abbrev pub IsKeptIn : Case → List ℤ → Kept → Type 0
IsKeptIn c lam k =
    let p = numbers_of c in
    IsKept
    (meanings p.count (IsMixLow p) (IsMixUp p) (ArePackingLogs p) (λ lam lo hi m. (r : Region) → r.lo ≡ lo → r.hi ≡ hi → IsMixSlope p lam r m) (IsPackingSlope p))
    lam k
