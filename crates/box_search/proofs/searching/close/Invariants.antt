use Rattle.std.proofs.Common.{◌+◌, ◌-◌, ◌≤◌, ◌≤ℤ◌, ◌^◌, ◌∷◌, unsigned_abs, length}
use Rattle.case_types.specs.Grid.Cells.{Region}
use Rattle.box_search.specs.Leaves.{IsLeft}
use Rattle.box_search.specs.Written.{WritesSome}
use Rattle.box_search.specs.Parts.{meanings, HaveParts}
use Rattle.box_search.proofs.Closing.{Closing}
use Rattle.box_search.proofs.searching.close.Given as goal

abbrev pub invariant-loop-half : goal.invariant-loop-half
invariant-loop-half g l = record {
  parts : HaveParts (meanings (g.S.Surface.bounds l.surface).count (g.S.Surface.is_mix_low l.surface) (g.S.Surface.is_mix_up l.surface) (g.S.Surface.are_logs l.surface) (g.S.Surface.is_mix_slope l.surface) (g.S.Surface.is_packing_slope l.surface)) l.plane.lam l.stack.halves;
  low : l.low ≤ℤ l.hand.low;
  small : unsigned_abs l.low ≤ 2 ^ 107;
  letters : WritesSome l.fn.letters l.letters (length l.fn.stack.regions - length l.stack.regions + 1);
  left : length l.stack.regions ≤ length l.fn.stack.regions;
  room : length l.stack.regions ≤ l.letters.spare;
  closing : (r : Region) → IsLeft (g.S.Surface.bounds l.surface) l.plane.lam r l.hand →
      Closing (g.S.Surface.bounds l.surface) l.plane.lam l.fn.low (r ∷ l.fn.stack.regions) l.fn.letters.items l.letters.items l.low l.stack.regions;
}

abbrev pub decreases-loop-half : goal.decreases-loop-half
decreases-loop-half g l = length l.stack.regions
