-- An energy surface for tests: how far the first fraction and the packing are from a bottom, both in 2^-40.
use Rattle.std.specs.Prelude.{ℕ, ◌+◌, ◌-◌, ◌*◌, ◌^◌, ◌&&◌, nat_le, nat_lt, cond, List, Option, Some, None, ℤ, pos, neg_ℤ, ◌+ℤ◌, ◌-ℤ◌, unsigned_abs, slice_index, slice_index_or}
use Rattle.case_types.specs.Grid.Cells.{Region}
use Rattle.energy_surface.specs.Surfaces.{Surface}

-- how far the numbers from lo to hi are from the bottom, at least and at most
abbrev pub nearest : ℕ → ℕ → ℕ → ℕ
nearest bottom lo hi = (lo - bottom) + (bottom - hi)

abbrev pub farthest : ℕ → ℕ → ℕ → ℕ
farthest bottom lo hi = (bottom - lo) + (hi - bottom)

-- a low of it, loose by so many widths
abbrev pub loose_low : ℕ → ℕ → ℕ → ℕ → ℤ
loose_low bottom widths lo hi = pos (nearest bottom lo hi) -ℤ pos (widths * (hi - lo))

-- over cells of such packings at least, no energy is below 0 and a plane of equal potentials is the first of them
abbrev pub level_low : ℕ → List ℤ → Region → Option ℤ
level_low sloped lam r =
    let first = slice_index_or lam 0 (pos 0) in
    cond (nat_le sloped r.ylo && nat_lt (unsigned_abs first) (2 ^ 60)) (Some (neg_ℤ first)) None

-- the plain lows are loose by a slack besides
abbrev pub bowl : ℕ → ℕ → ℕ → ℕ → ℕ → Surface
bowl count bottom widths slack sloped = record {
  count = count;
  low = λ x yl yh. (loose_low bottom widths (slice_index x.lo 0) (slice_index x.hi 0) +ℤ loose_low bottom widths yl yh) -ℤ pos slack;
  up = λ x y. pos (farthest bottom (slice_index x.lo 0) (slice_index x.hi 0) + farthest bottom y y);
  slope = level_low sloped;
}
