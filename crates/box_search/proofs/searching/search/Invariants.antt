use Rattle.std.proofs.Common.{◌≡◌, ◌+◌, ◌-◌, ◌*◌, ◌≤◌, ◌^◌, pos, neg_ℤ, ◌≤ℤ◌, length}
use Rattle.box_search.specs.Written.{WritesSome}
use Rattle.box_search.specs.Parts.{meanings, HaveParts}
use Rattle.box_search.proofs.Deep.{IsDeep}
use Rattle.box_search.proofs.Root.{IsBegun}
use Rattle.box_search.proofs.SoFar.{SoFar}
use Rattle.box_search.proofs.searching.search.Given as goal
use Rattle.energy_surface.specs.Surfaces.{under}

abbrev pub invariant-loop-half : goal.invariant-loop-half
invariant-loop-half g l = record {
  parts : HaveParts (meanings (g.S.Surface.bounds l.surface).count (g.S.Surface.is_mix_low l.surface) (g.S.Surface.is_mix_up l.surface) (g.S.Surface.are_logs l.surface) (g.S.Surface.is_mix_slope l.surface) (g.S.Surface.is_packing_slope l.surface)) l.plane.lam l.stack.halves;
  deep : IsDeep l.stack.regions;
  begun : IsBegun (under (g.S.Surface.bounds l.surface) l.plane.lam l.fn.delta) l.stack.regions;
  low : neg_ℤ l.fn.delta ≤ℤ l.low;
  high : l.low ≤ℤ pos (2 ^ 107);
  budget : l.units.budget ≡ l.fn.units.budget;
  spent : l.fn.units.spent ≤ l.units.spent;
  letters : WritesSome l.fn.letters l.letters (2 * (l.units.spent - l.fn.units.spent) + 1 - length l.stack.regions);
  so_far : SoFar (under (g.S.Surface.bounds l.surface) l.plane.lam l.fn.delta) l.fn.letters.items l.letters.items (l.units.spent - l.fn.units.spent) l.low l.stack.regions;
  counted : length l.stack.regions ≤ 2 * (l.units.spent - l.fn.units.spent) + 1;
}

abbrev pub decreases-loop-half : goal.decreases-loop-half
decreases-loop-half g l = 2 * (l.units.budget - l.units.spent) + length l.stack.regions
