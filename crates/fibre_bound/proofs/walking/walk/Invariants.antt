use Rattle.std.proofs.Common.{◌≡◌, ◌+◌, ◌-◌, ◌*◌, ◌<◌, ◌≤◌, ◌^◌, length, unsigned_abs}
use Rattle.case_types.specs.Arithmetic.Bounds.{box_of}
use Rattle.fibre_bound.specs.Cells.{AreCells, spans_of}
use Rattle.fibre_bound.specs.Walks.{Reaches, question_over}
use Rattle.fibre_bound.proofs.Deep.{IsDeep}
use Rattle.fibre_bound.proofs.Going.{trail}
use Rattle.fibre_bound.proofs.Small.{IsSmall}
use Rattle.fibre_bound.proofs.walking.walk.Given as goal

abbrev pub invariant-loop-hand : goal.invariant-loop-hand
invariant-loop-hand g l = record {
  cells : AreCells (g.S.Surface.bounds l.surface) (box_of l.feed.x) (g.S.Surface.are_logs l.surface) l.stack;
  deep : IsDeep (spans_of l.stack);
  reaches : Reaches (question_over (g.S.Surface.bounds l.surface) (box_of l.feed.x) l.feed.slack l.fn.first) (l.fn.units.budget - l.fn.units.spent) (trail l.best l.least l.stack (l.units.spent - l.fn.units.spent));
  small : unsigned_abs l.best.up < 2 ^ 49;
  low_small : IsSmall l.least;
  budget : l.units.budget ≡ l.fn.units.budget;
  spent : l.fn.units.spent ≤ l.units.spent;
}

abbrev pub decreases-loop-hand : goal.decreases-loop-hand
decreases-loop-hand g l = 64 * (l.units.budget - l.units.spent) + length l.stack
