use Rattle.std.proofs.Common.{ℕ, ◌≡◌, ◌≤◌, ◌<◌, ◌↔◌, ◌-◌, false}
use Rattle.case_types.specs.Brackets.{Walk}
use Rattle.edge_flash.specs.declared.classed.Classed.{Classed as Said}
use Rattle.edge_flash.specs.Places.{are_alike, boundary, IsEndOf, in_hand}
use Rattle.edge_flash.proofs.bisecting.searched.Given as goal

abbrev pub invariant-loop-upper : goal.invariant-loop-upper
invariant-loop-upper g l = record {
  walk : Walk (IsEndOf (g.C.Classify.may_say l.fn.places)) (boundary l.fn.side l.fn.lo l.fn.hi l.fn.width) (in_hand l.lower l.upper);
  differ : are_alike l.lower.kind l.upper.kind ≡ false;
  low : l.fn.lo ≤ l.lower.at;
  ordered : l.lower.at < l.upper.at;
  high : l.upper.at ≤ l.fn.hi;
  least : g.C.Classify.least l.places ≡ g.C.Classify.least l.fn.places;
  greatest : g.C.Classify.greatest l.places ≡ g.C.Classify.greatest l.fn.places;
  kept : (place : ℕ) (said : Said) → g.C.Classify.may_say l.places place said ↔ g.C.Classify.may_say l.fn.places place said;
}

abbrev pub decreases-loop-upper : goal.decreases-loop-upper
decreases-loop-upper g l = l.upper.at - l.lower.at
