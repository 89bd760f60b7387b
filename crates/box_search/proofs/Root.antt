-- The whole domain is the first cell of a search.
use Rattle.std.proofs.Common.{◌≡◌, List, [], ◌∷◌, ◌⊎◌, inl, inr, neg_ℤ, ◌<ℤ◌, ◌+◌, length, ap, sym, ◌∙◌, refl, arith}
use Rattle.case_types.specs.Grid.Cells.{Region, root_region}
use Rattle.energy_surface.specs.Surfaces.{Under, plain_low}

-- nothing but the whole domain was looked at, or it isn't cleared, or nothing is left
abbrev pub IsBegun : Under → List Region → Type 0
IsBegun u stack =
    (stack ≡ root_region u.surface.count ∷ []) ⊎ ((stack ≡ []) ⊎ (plain_low u.surface u.plane (root_region u.surface.count) <ℤ neg_ℤ u.delta))

-- lists by their parts
abbrev head_of : Region → List Region → Region
head_of d [] = d
head_of d (r ∷ rest) = r

not_nothing : (r : Region) (stack rest : List Region) → stack ≡ r ∷ rest → stack ≡ [] → ⊥
not_nothing r stack rest e n = let h : length stack ≡ length rest + 1 = ap length e ∙ omega arith in let z : length stack ≡ 0 = ap length n in omega (arith, h, z)

-- after a cell that is cleared
pub begun_rest : (u : Under) (r : Region) (stack rest : List Region) → stack ≡ r ∷ rest →
    IsBegun u stack → IsBegun u rest
begun_rest u r stack [] e h = inr (inl refl)
begun_rest u r stack (s ∷ rest) e (inl first) =
    let h : length stack ≡ length rest + 2 = ap length e ∙ omega arith in
    let one : length stack ≡ 1 = ap length first in absurd (omega (arith, h, one))
begun_rest u r stack (s ∷ rest) e (inr (inl none)) = absurd (not_nothing r stack (s ∷ rest) e none)
begun_rest u r stack (s ∷ rest) e (inr (inr less)) = inr (inr less)

-- at a cell that isn't cleared
pub root_open : (u : Under) (r : Region) (stack rest : List Region) → stack ≡ r ∷ rest →
    IsBegun u stack → plain_low u.surface u.plane r <ℤ neg_ℤ u.delta → plain_low u.surface u.plane (root_region u.surface.count) <ℤ neg_ℤ u.delta
root_open u r stack rest e (inl first) less =
    let same : r ≡ root_region u.surface.count = ap (head_of r) (sym e ∙ first) in rw (← same) less
root_open u r stack rest e (inr (inl none)) less = absurd (not_nothing r stack rest e none)
root_open u r stack rest e (inr (inr low)) less = low
