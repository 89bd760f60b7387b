-- Cells of the search, trees of halvings, and the low of a leaf.
use Rattle.std.specs.Prelude.{ℕ, zero, suc, ◌+◌, ◌-◌, ◌*◌, ◌/◌, ◌^◌, ◌<◌, ◌≤◌, ◌≡◌, ◌⊎◌, List, [], ◌∷◌, ◌++◌, map, cond, ◌==◌, nat_lt, nat_le, Bool, ◌||◌, IsFalse, if◌then◌else◌, Option, Some, None, ℤ, pos, ◌-ℤ◌, ◌*ℤ◌, ◌≤ℤ◌, slice_index, slice_set}
use Rattle.case_types.specs.declared.cells.Cell.{Cell}
use Rattle.case_types.specs.Arithmetic.Bounds.{Box, one, plane_high}
use Rattle.case_types.specs.Energy.Divisions.{State, IsState, moles}
use Rattle.log_laws.specs.Sums.{sum_below, all_below, list_below}

-- a cell without its facts: ends of the free fractions in 2^-20 and of the packing in 2^-40
pub record Region : Type 0 where
  pub lo : List ℕ
  pub hi : List ℕ
  pub ylo : ℕ
  pub yhi : ℕ

abbrev pub region_of : Cell → Region
region_of cell = record { lo = cell.lo; hi = cell.hi; ylo = cell.ylo; yhi = cell.yhi }

-- the whole domain
abbrev pub root_region : ℕ → Region
root_region n = record {
  lo = 0 ∷ 0 ∷ 0 ∷ [];
  hi = list_below 3 (λ i. cond (nat_lt i (n - 1)) (2 ^ 20) 0);
  ylo = 0;
  yhi = one;
}

-- the free fractions are the first n - 1
abbrev pub free_sum : ℕ → List ℕ → ℕ
free_sum n ends = sum_below (n - 1) (slice_index ends)

-- no composition lies in it
abbrev pub misses : ℕ → Region → Bool
misses n r = nat_lt (2 ^ 20) (free_sum n r.lo)

-- the fractions of all components in 2^-40, the last being the rest
abbrev pub box_of_region : ℕ → Region → Box
box_of_region n r =
    let fraction : List ℕ → ℕ → ℕ → ℕ = λ ends rest i.
    cond (nat_lt i (n - 1)) (slice_index ends i * 2 ^ 20) (cond (i == n - 1) rest 0) in
    record {
      lo = list_below 4 (fraction r.lo (one - free_sum n r.hi * 2 ^ 20));
      hi = list_below 4 (fraction r.hi (one - free_sum n r.lo * 2 ^ 20));
    }

-- ---- edges: 0, 1 and 2 are free fractions, 3 is the packing
abbrev pub packing_edge : ℕ
packing_edge = 3

abbrev pub edge_length : Region → ℕ → ℕ
edge_length r edge = cond (edge == packing_edge) (r.yhi - r.ylo) (slice_index r.hi edge - slice_index r.lo edge)

-- the first free fraction of greatest length
unfoldable pub widest_below : Region → ℕ → ℕ
widest_below r zero = 0
widest_below r (suc i) = wider r i (widest_below r i)
  where
    wider : Region → ℕ → ℕ → ℕ
    wider r i before = cond (nat_lt (edge_length r before) (edge_length r i)) i before

-- the packing where four times its width is at least every width of a fraction, else the widest fraction
unfoldable pub edge_to_halve : ℕ → Region → ℕ
edge_to_halve n r =
    cond (all_below (n - 1) (λ i. nat_le (edge_length r i * 2 ^ 20) (4 * edge_length r packing_edge)))
    packing_edge (widest_below r (n - 1))

abbrev pub is_unit : Region → ℕ → Bool
is_unit r edge = edge_length r edge == 1

abbrev pub cut : Region → ℕ → ℕ
cut r edge = cond (edge == packing_edge) ((r.ylo + r.yhi) / 2) ((slice_index r.lo edge + slice_index r.hi edge) / 2)

abbrev pub lower_half : ℕ → Region → Region
lower_half edge r =
    if edge == packing_edge then record r { yhi = cut r edge } else record r { hi = slice_set r.hi edge (cut r edge) }

abbrev pub upper_half : ℕ → Region → Region
upper_half edge r =
    if edge == packing_edge then record r { ylo = cut r edge } else record r { lo = slice_set r.lo edge (cut r edge) }

-- ---- trees
-- what stands on a leaf: that its cell misses, or which low clears it
pub data Mark : Type 0 where
  Misses : Mark
  Plain : Mark
  Sloped : Mark

-- a leaf with its mark, or the edge that was halved with the lower and the upper half
pub data Tree : Type 0 where
  Leaf : Mark → Tree
  Node : ℕ → Tree → Tree → Tree

-- what the walk meets at a cell: a leaf, or the edge that it halves
pub data Step : Type 0 where
  Ends : Mark → Step
  Halves : ℕ → Step

pub record Visit : Type 0 where
  pub region : Region
  pub step : Step

-- the cells of a tree from the top, a cell before its halves and the lower half first
unfoldable pub visits : Tree → Region → List Visit
visits (Leaf mark) r = record { region = r; step = Ends mark } ∷ []
visits (Node edge lower upper) r =
    record { region = r; step = Halves edge } ∷ (visits lower (lower_half edge r) ++ visits upper (upper_half edge r))

-- the letter of a step: `m`, `p`, `s`, `1`, `2`, `3`, `y`
abbrev pub letter_of : Step → ℕ
letter_of (Ends Misses) = 109
letter_of (Ends Plain) = 112
letter_of (Ends Sloped) = 115
letter_of (Halves edge) = cond (edge == packing_edge) 121 (49 + edge)

abbrev pub letters_of : List Visit → List ℕ
letters_of vs = map (λ (v : Visit). letter_of v.step) vs

-- ---- a point in a cell, and the cover
pub record IsWithin (n : ℕ) (r : Region) (f : State) : Type 0 where
  pub above : (i : ℕ) → i < n - 1 → slice_index r.lo i * moles n f ≤ f.parts i * 2 ^ 20
  pub below : (i : ℕ) → i < n - 1 → f.parts i * 2 ^ 20 ≤ slice_index r.hi i * moles n f
  pub denser : pos (r.ylo * f.packing.den) ≤ℤ (f.packing.num *ℤ pos one)
  pub thinner : (f.packing.num *ℤ pos one) ≤ℤ pos (r.yhi * f.packing.den)

-- a leaf whose cell holds the point
pub record IsLeafAt (n : ℕ) (f : State) (v : Visit) : Type 0 where
  pub mark : Mark
  pub ends : v.step ≡ Ends mark
  pub holds : IsWithin n v.region f
  pub meets : IsFalse (misses n v.region)

-- some visit of a walk is as P says
abbrev pub HasVisit : (Visit → Type 0) → List Visit → Type 0
HasVisit P [] = ⊥
HasVisit P (v ∷ vs) = P v ⊎ HasVisit P vs

-- every point lies in a leaf that doesn't miss, whatever the tree
abbrev pub TreesCover : Type 0
TreesCover = (n : ℕ) (tree : Tree) (f : State) → n ≤ 4 → IsState n f → HasVisit (IsLeafAt n f) (visits tree (root_region n))

-- ---- lows
-- how far over a cell an energy lies above a plane, at least, from what the energy is at least over a box and a range of packings
unfoldable pub cell_low : ℕ → (Box → ℕ → ℕ → ℤ) → List ℤ → Region → ℤ
cell_low n low lam r = low (box_of_region n r) r.ylo r.yhi -ℤ plane_high n lam (box_of_region n r)

-- the low is there and is at least this
abbrev pub HasLow : ℤ → Option ℤ → Type 0
HasLow low None = ⊥
HasLow low (Some l) = low ≤ℤ l

-- ---- the middle of a cell
pub record GridPoint : Type 0 where
  pub composition : List ℕ
  pub packing : ℕ

abbrev pub middle_of : Region → ℕ → ℕ
middle_of r i = (slice_index r.lo i + slice_index r.hi i) / 2

abbrev pub middle_sum : ℕ → Region → ℕ
middle_sum n r = sum_below (n - 1) (middle_of r)

abbrev pub middle_point : ℕ → Region → GridPoint
middle_point n r = record {
  composition = list_below 4 (λ i. cond (nat_lt i (n - 1)) (middle_of r i) (cond (i == n - 1) (2 ^ 20 - middle_sum n r) 0));
  packing = (r.ylo + r.yhi) / 2;
}

-- none where the rest would be negative or the packing 0
abbrev pub midpoint : ℕ → Region → Option GridPoint
midpoint n r =
    if nat_lt (2 ^ 20) (middle_sum n r) || (r.ylo + r.yhi) / 2 == 0 then None else Some (middle_point n r)
