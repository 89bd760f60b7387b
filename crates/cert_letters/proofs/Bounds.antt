-- A tree whose leaves pass has a low over its cell.
use Rattle.std.proofs.Common.{◌≡◌, ℕ, List, true, not, Option, Some, None, ℤ, ◌≤ℤ◌, arith}
use Rattle.std.specs.Prelude.{int_le}
use Rattle.std.proofs.lemmas.Bool.{and_parts}
use Rattle.case_types.specs.Grid.Cells.{Region, Tree, Leaf, Node, Misses, Plain, Sloped, misses, HasLow, root_region, lower_half, upper_half}
use Rattle.energy_surface.specs.Surfaces.{Surface, low_by, IsTreeOver}
use Rattle.cert_letters.specs.Bounds.{leaf_test, is_low_above, LinesBound}
use Rattle.cert_letters.specs.Lines.{IsGoodTree}
use Rattle.cert_letters.proofs.Lines.{line_takes}

at_most : (a b : ℤ) → int_le a b ≡ true → a ≤ℤ b
at_most a b e = grind arith

has_low : (low : ℤ) (o : Option ℤ) → is_low_above low o ≡ true → HasLow low o
has_low low None e = absurd cc
has_low low (Some l) e = at_most low l e

pub tested_over : (s : Surface) (lam : List ℤ) (low : ℤ) (n : ℕ) (t : Tree) (r : Region) → IsGoodTree n (leaf_test s lam low) t r → IsTreeOver s lam low t r
unfolding IsGoodTree IsTreeOver leaf_test
tested_over s lam low n (Leaf Misses) r g = g
tested_over s lam low n (Leaf Plain) r g =
    has_low low (low_by s lam r Plain) (and_parts (not (misses s.count r)) (is_low_above low (low_by s lam r Plain)) g).1
tested_over s lam low n (Leaf Sloped) r g =
    has_low low (low_by s lam r Sloped) (and_parts (not (misses s.count r)) (is_low_above low (low_by s lam r Sloped)) g).1
tested_over s lam low n (Node edge lower upper) r g = (tested_over s lam low n lower (lower_half edge r) g.2, tested_over s lam low n upper (upper_half edge r) g.3)

pub lines_bound : LinesBound
lines_bound s lam low letters bytes rest few e =
    let t = line_takes s.count letters (leaf_test s lam low) bytes rest few e in
    record { tree = t.0; over = tested_over s lam low s.count t.0 (root_region s.count) t.1 }
