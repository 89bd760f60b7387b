-- An energy surface for tests: the energy is the packing fraction, in 2^-40 bit.
use Rattle.std.specs.Prelude.{ℕ, None, pos}
use Rattle.energy_surface.specs.Surfaces.{Surface}

abbrev pub level : ℕ → Surface
level count = record {
  count = count;
  low = λ x yl yh. pos yl;
  up = λ x y. pos y;
  slope = λ lam r. None;
}
