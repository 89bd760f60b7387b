-- Why a stack of cells stays short: each cell can be halved less often than the cell that it is a half of.
use Rattle.std.proofs.Common.{◌≡◌, ℕ, ◌+◌, ◌-◌, ◌*◌, ◌<◌, ◌≤◌, List, [], ◌∷◌, length, arith}
use Rattle.case_types.specs.Grid.Cells.{Region}
use Rattle.density_boxes.specs.Halvings.{halvings_left}
use Rattle.cert_letters.specs.Depth.{IsDeep}

-- the whole domain of up to four components alone
pub deep_root : (n : ℕ) (r : Region) (stack : List Region) → n ≤ 4 → stack ≡ r ∷ [] → halvings_left r ≡ 20 * (n - 1) + 40 → IsDeep stack
unfolding IsDeep
deep_root n r stack few e h = rw e (omega (arith, few, h), tt)

pub deep_rest : (r : Region) (below : List Region) → IsDeep (r ∷ below) → IsDeep below
unfolding IsDeep
deep_rest r below f = f.1

pub deep_room : (r : Region) (below : List Region) → IsDeep (r ∷ below) → length below ≤ 100
unfolding IsDeep
deep_room r below f = omega (arith, f.0)

-- after a cell was halved
pub deep_halves : (r lower upper : Region) (below : List Region) → halvings_left lower < halvings_left r → halvings_left upper < halvings_left r →
    IsDeep (r ∷ below) → IsDeep (lower ∷ upper ∷ below)
unfolding IsDeep
deep_halves r lower upper below h g f = (omega (arith, f.0, h), (omega (arith, f.0, g), f.1))

-- so there are at most 101 cells
pub deep_length : (rs : List Region) → IsDeep rs → length rs ≤ 101
unfolding IsDeep
deep_length [] f = omega arith
deep_length (r ∷ below) f = omega (arith, f.0)
