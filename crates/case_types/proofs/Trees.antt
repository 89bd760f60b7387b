-- Small trees of cells, edges to halve, middles and cells that miss.
use Rattle.std.specs.Prelude.{◌≡◌, [], ◌∷◌, None, true, false, refl}
use Rattle.case_types.specs.Grid.Cells.{Tree, Leaf, Node, Misses, Plain, visits, letters_of, root_region, edge_to_halve, widest_below, misses, midpoint}
use Rattle.log_laws.specs.Sums.{list_below}

abbrev pub small_tree : Tree
small_tree = Node 0 (Node 3 (Leaf Plain) (Leaf Plain)) (Leaf Misses)

pub small_letters : letters_of (visits small_tree (root_region 2)) ≡ 49 ∷ 121 ∷ 112 ∷ 112 ∷ 109 ∷ []
unfolding visits list_below
small_letters = refl

-- the packing is named first, then the first fraction
pub first_edge : edge_to_halve 3 (root_region 3) ≡ 3
unfolding edge_to_halve widest_below list_below
first_edge = refl

-- a packing of 0 or a negative rest has no middle
pub no_middle_at_zero : midpoint 1 (record { lo = []; hi = []; ylo = 0; yhi = 1 }) ≡ None
no_middle_at_zero = refl

pub no_middle_past_one : midpoint 3 (record { lo = 524288 ∷ 524288 ∷ []; hi = 1048576 ∷ 1048576 ∷ []; ylo = 0; yhi = 4 }) ≡ None
no_middle_past_one = refl

-- the corner where the others have all is no miss, one unit above it is
pub corner_meets : misses 3 (record { lo = 524288 ∷ 524288 ∷ []; hi = []; ylo = 0; yhi = 1 }) ≡ false
corner_meets = refl

pub past_corner_misses : misses 3 (record { lo = 524288 ∷ 524289 ∷ []; hi = []; ylo = 0; yhi = 1 }) ≡ true
past_corner_misses = refl
