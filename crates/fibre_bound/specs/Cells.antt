-- What the feed and the cells of a walk hold.
use Rattle.std.specs.Prelude.{ℕ, ◌≡◌, ◌<◌, List, [], ◌∷◌, map}
use Rattle.case_types.specs.declared.parts.MixLow.{MixLow}
use Rattle.case_types.specs.declared.parts.MixUp.{MixUp}
use Rattle.case_types.specs.declared.parts.PackingLogs.{PackingLogs}
use Rattle.case_types.specs.Arithmetic.Bounds.{Box, box_of}
use Rattle.energy_surface.specs.Surfaces.{Surface}
use Rattle.fibre_bound.specs.declared.cells.Cell.{Cell}
use Rattle.fibre_bound.specs.declared.feeds.Feed.{Feed}
use Rattle.fibre_bound.specs.Walks.{Span, span}

-- the parts are those of the composition
pub record IsFeed (is_mix_low : Box → MixLow → Type 0) (is_mix_up : Box → MixUp → Type 0) (f : Feed) : Type 0 where
  pub low : is_mix_low (box_of f.x) f.low
  pub up : is_mix_up (box_of f.x) f.up

-- the logarithms are those at the ends, and the low is that of the cell
pub record IsCell (s : Surface) (x : Box) (are_logs : ℕ → PackingLogs → Type 0) (c : Cell) : Type 0 where
  pub from : are_logs c.from.packing c.from
  pub to : are_logs c.to.packing c.to
  pub ordered : c.from.packing < c.to.packing
  pub low : c.low ≡ s.low x c.from.packing c.to.packing

unfoldable pub AreCells : Surface → Box → (ℕ → PackingLogs → Type 0) → List Cell → Type 0
AreCells s x are_logs [] = Unit {0}
AreCells s x are_logs (c ∷ cs) = IsCell s x are_logs c × AreCells s x are_logs cs

abbrev pub span_of : Cell → Span
span_of c = span c.from.packing c.to.packing

abbrev pub spans_of : List Cell → List Span
spans_of cs = map span_of cs
