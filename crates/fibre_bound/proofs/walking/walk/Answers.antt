use Rattle.std.proofs.Common.{rules, ◌≡◌, ℕ, ◌-◌, ◌<◌, ◌≤◌, List, [], ◌∷◌, length, false, ◌-ℤ◌, int_le, refl, ap, sym, subst, ◌∙◌, arith}
use Rattle.std.proofs.lemmas.List.{length-map}
use Rattle.case_types.specs.Arithmetic.Bounds.{Box, box_of}
use Rattle.energy_surface.specs.Surfaces.{Surface}
use Rattle.fibre_bound.specs.declared.cells.Cell.{Cell}
use Rattle.fibre_bound.specs.Cells.{IsCell, AreCells, span_of, spans_of}
use Rattle.fibre_bound.specs.Walks.{Question, span, middle, question_over, Reaches}
use Rattle.fibre_bound.specs.Walks.Reaches.{Begins}
use Rattle.fibre_bound.proofs.Deep.{IsDeep, deep_whole, deep_rest, deep_room, deep_inside, middle_below, deep_halves}
use Rattle.fibre_bound.proofs.Going.{trail, IsInHand, opened, IsMiddle, lower_state, no_lower, wanted, clears, lowers, halves, least_some, stops, cells_more, cells_none, cells_top}
use Rattle.fibre_bound.proofs.Small.{small_lesser, small_stopped}
use Rattle.fibre_bound.proofs.walking.walk.Goals.{In-Some, After-lower_state-lower}
use Rattle.fibre_bound.proofs.walking.walk.Goals as goal

pub loop-hand-init : goal.loop-hand-init
loop-hand-init g c =
    let s = g.S.Surface.bounds c.args.surface.now in
    let x = box_of c.args.feed.now.x in
    let logs = g.S.Surface.are_logs c.args.surface.now in
    let none : c.args.units.now.spent - c.args.units.now.spent ≡ 0 = omega arith in
    record {
      cells = rw c.new-stack.ensures (cells_more s x logs c.whole.result [] c.whole.ensures.cell (cells_none s x logs));
      deep = rw (c.new-stack.ensures, c.whole.ensures.from, c.whole.ensures.to) deep_whole;
      reaches = rw (c.new-stack.ensures, c.whole.ensures.from, c.whole.ensures.to, none) Begins;
      small = c.requires.small;
      low_small = tt;
      budget = refl;
      spent = omega arith;
    }

-- ---- the cell in hand
module _ (g : _) (c : In-Some g) where
  abbrev s : Surface
  s = g.S.Surface.bounds c.args.surface.now

  abbrev x : Box
  x = box_of c.args.feed.now.x

  abbrev question : Question
  question = question_over s x c.args.feed.now.slack c.args.first

  abbrev hand : Cell
  hand = c.in-Some.hand

  abbrev rest : List Cell
  rest = c.pop.new.self

  abbrev budget : ℕ
  budget = c.args.units.now.budget - c.args.units.now.spent

  abbrev spent : ℕ
  spent = c.loop-hand.units.spent - c.args.units.now.spent

  all : AreCells s x (g.S.Surface.are_logs c.args.surface.now) (hand ∷ rest)
  all = subst (AreCells s x (g.S.Surface.are_logs c.args.surface.now)) c.in-Some.ensures.some c.loop-hand.invariant.cells

  cells : IsCell s x (g.S.Surface.are_logs c.args.surface.now) hand × AreCells s x (g.S.Surface.are_logs c.args.surface.now) rest
  cells = cells_top s x (g.S.Surface.are_logs c.args.surface.now) hand rest all

  deep : IsDeep (span_of hand ∷ spans_of rest)
  deep = subst (λ (l : List Cell). IsDeep (spans_of l)) c.in-Some.ensures.some c.loop-hand.invariant.deep

  room : length rest ≤ 40
  room = subst (λ (n : ℕ). n ≤ 40) (length-map rest span_of) (deep_room (span_of hand) (spans_of rest) deep)

  reaches : Reaches question budget (trail c.loop-hand.best c.loop-hand.least (hand ∷ rest) spent)
  reaches = subst (λ (l : List Cell). Reaches question budget (trail c.loop-hand.best c.loop-hand.least l spent)) c.in-Some.ensures.some c.loop-hand.invariant.reaches

  in_hand : int_le (c.loop-hand.best.up -ℤ c.args.feed.now.slack) hand.low ≡ false → IsInHand question budget c.loop-hand.best c.loop-hand.least hand rest spent
  in_hand e = record { reaches = reaches; low = cells.0.low; not_clear = e }

-- the state in the middle
middle_is : (g : _) (c : After-lower_state-lower g) →
    IsMiddle (g.S.Surface.bounds c.args.surface.now) (box_of c.args.feed.now.x) c.loop-hand.best c.middle-logs.result.packing c.lower_state-lower.result
middle_is g c = record {
  some = c.lower_state-lower.ensures.some;
  state = c.lower_state-lower.ensures.state;
  lower = c.lower_state-lower.ensures.lower;
  small = c.lower_state-lower.ensures.small;
  none = c.lower_state-lower.ensures.none;
}

pub loop-hand-preserved-then-is_clear : goal.loop-hand-preserved-then-is_clear
loop-hand-preserved-then-is_clear g c =
    let here = (goal.at.loop-hand-preserved-then-is_clear g c).In-Some in
    let held = hand g here in
    let e = c.lesser-least.ensures in
    record {
      cells = (cells g here).1;
      deep = deep_rest (span_of held) (spans_of (rest g here)) (deep g here);
      reaches = rw e
          (clears (question g here) (budget g here) c.loop-hand.best c.loop-hand.least held (rest g here) (spent g here) (reaches g here) (cells g here).0.low
          (sym c.is_clear.ensures ∙ c.if-is_clear.true));
      small = c.loop-hand.invariant.small;
      low_small = rw e (small_lesser c.loop-hand.least held.low c.loop-hand.invariant.low_small held.low_small);
      budget = c.loop-hand.invariant.budget;
      spent = c.loop-hand.invariant.spent;
    }

pub lower_state-lower-requires-clause-inside : goal.lower_state-lower-requires-clause-inside
lower_state-lower-requires-clause-inside g c =
    let here = (goal.at.lower_state-lower-requires-clause-inside g c).In-Some in
    let held = hand g here in
    let below = middle_below (span_of held) (cells g here).0.ordered in
    let inside = deep_inside (span_of held) (spans_of (rest g here)) (deep g here) in
    rw c.middle-logs.ensures.at (omega (arith, below, inside))

pub is_stuck-requires : goal.is_stuck-requires
is_stuck-requires g c = (cells g (goal.at.is_stuck-requires g c).In-Some).0.ordered

pub returns-then-is_stuck-clause-fibre : goal.returns-then-is_stuck-clause-fibre
returns-then-is_stuck-clause-fibre g c =
    let here = (goal.at.returns-then-is_stuck-clause-fibre g c).In-Some in
    let held = hand g here in
    let in_hand = in_hand g here (sym c.is_clear.ensures ∙ c.if-is_clear.false) in
    let between = middle_is g (goal.at.returns-then-is_stuck-clause-fibre g c).After-lower_state-lower in
    let none = no_lower (s g here) (x g here) c.loop-hand.best c.middle-logs.result.packing c.lower_state-lower.result between (c.is_stuck.ensures.none c.if-is_stuck.true) in
    stops (s g here) (x g here) (g.S.Surface.are_logs c.args.surface.now) (question g here) (budget g here) c.loop-hand.best c.loop-hand.least c.least_low.result held (rest g here) (spent g here) c.ended.result
    refl (all g here) (reaches g here) c.least_low.ensures c.ended.ensures.packing c.ended.ensures.up c.ended.ensures.low
    (rw c.ended.ensures.end (
      span_of held,
      spans_of (rest g here),
      refl,
      opened (question g here) (budget g here) c.loop-hand.best c.loop-hand.least held (rest g here) (spent g here) in_hand,
      rw c.middle-logs.ensures.at at none,
      c.is_stuck.ensures.unit c.if-is_stuck.true,
      refl,
    ))
    (λ z h. rw c.ended.ensures.end h)

pub returns-then-is_stuck-clause-low_small : goal.returns-then-is_stuck-clause-low_small
returns-then-is_stuck-clause-low_small g c =
    let here = (goal.at.returns-then-is_stuck-clause-low_small g c).In-Some in
    let least = least_some c.loop-hand.least (hand g here) (rest g here) in
    let some = c.least_low.ensures ∙ least.1 in
    small_stopped c.loop-hand.least c.least_low.result (hand g here ∷ rest g here) least.0 c.ended.result.low c.loop-hand.invariant.low_small c.least_low.ensures some (c.ended.ensures.low least.0 some)

pub returns-then-is_spent-clause-fibre : goal.returns-then-is_spent-clause-fibre
returns-then-is_spent-clause-fibre g c =
    let here = (goal.at.returns-then-is_spent-clause-fibre g c).In-Some in
    let held = hand g here in
    let in_hand = in_hand g here (sym c.is_clear.ensures ∙ c.if-is_clear.false) in
    let between = middle_is g (goal.at.returns-then-is_spent-clause-fibre g c).After-lower_state-lower in
    let wants = wanted (s g here) (x g here) c.loop-hand.best c.middle-logs.result.packing (held.to.packing - held.from.packing) c.lower_state-lower.result between (c.is_stuck.ensures.free c.if-is_stuck.false) in
    let all_spent : c.loop-hand.units.spent ≡ c.loop-hand.units.budget = c.is_spent.ensures.0 c.if-is_spent.true in
    stops (s g here) (x g here) (g.S.Surface.are_logs c.args.surface.now) (question g here) (budget g here) c.loop-hand.best c.loop-hand.least c.least_low-then-is_spent.result held (rest g here) (spent g here)
    c.ended-then-is_spent.result
    refl (all g here) (reaches g here) c.least_low-then-is_spent.ensures c.ended-then-is_spent.ensures.packing c.ended-then-is_spent.ensures.up c.ended-then-is_spent.ensures.low
    (rw c.ended-then-is_spent.ensures.end (
      span_of held,
      spans_of (rest g here),
      refl,
      opened (question g here) (budget g here) c.loop-hand.best c.loop-hand.least held (rest g here) (spent g here) in_hand,
      rw c.middle-logs.ensures.at at wants,
      rw (all_spent, c.loop-hand.invariant.budget) refl,
    ))
    (λ z h. rw c.ended-then-is_spent.ensures.end h)

pub returns-then-is_spent-clause-low_small : goal.returns-then-is_spent-clause-low_small
returns-then-is_spent-clause-low_small g c =
    let here = (goal.at.returns-then-is_spent-clause-low_small g c).In-Some in
    let least = least_some c.loop-hand.least (hand g here) (rest g here) in
    let some = c.least_low-then-is_spent.ensures ∙ least.1 in
    small_stopped c.loop-hand.least c.least_low-then-is_spent.result (hand g here ∷ rest g here) least.0 c.ended-then-is_spent.result.low c.loop-hand.invariant.low_small c.least_low-then-is_spent.ensures some
    (c.ended-then-is_spent.ensures.low least.0 some)

pub push-requires : goal.push-requires
push-requires g c = record { room = omega (arith, room g (goal.at.push-requires g c).In-Some) }

pub loop-hand-preserved-in-Some-lower : goal.loop-hand-preserved-in-Some-lower
loop-hand-preserved-in-Some-lower g c =
    let here = (goal.at.loop-hand-preserved-in-Some-lower g c).In-Some in
    let held = hand g here in
    let in_hand = in_hand g here (sym c.is_clear.ensures ∙ c.if-is_clear.false) in
    let between = middle_is g (goal.at.loop-hand-preserved-in-Some-lower g c).After-lower_state-lower in
    let state = lower_state (s g here) (x g here) c.loop-hand.best c.middle-logs.result.packing c.lower_state-lower.result c.in-Some-lower.state between c.in-Some-lower.is in
    let left : c.loop-hand.units.spent < c.loop-hand.units.budget = search (rules, c.is_spent.ensures, c.if-is_spent.false) in
    record {
      cells = rw c.push.ensures (all g here);
      deep = rw c.push.ensures (deep g here);
      reaches = rw c.push.ensures
          (lowers (question g here) (budget g here) c.loop-hand.best c.in-Some-lower.state c.loop-hand.least held (rest g here) (spent g here) (c.spend.new.self.spent - c.args.units.now.spent) in_hand
          (rw c.middle-logs.ensures.at at state.some) (state.packing ∙ c.middle-logs.ensures.at) (state.up ∙ ap (λ y. (s g here).up (x g here) y) c.middle-logs.ensures.at) state.lower
          (omega (arith, left, c.loop-hand.invariant.budget, c.loop-hand.invariant.spent)) (omega (arith, c.spend.ensures.spent, c.loop-hand.invariant.spent)));
      small = state.small;
      low_small = c.loop-hand.invariant.low_small;
      budget = c.spend.ensures.budget ∙ c.loop-hand.invariant.budget;
      spent = omega (arith, c.spend.ensures.spent, c.loop-hand.invariant.spent);
    }

pub cell_between-requires-clause-to : goal.cell_between-requires-clause-to
cell_between-requires-clause-to g c = (cells g (goal.at.cell_between-requires-clause-to g c).In-Some).0.to

pub push-requires-in-Some : goal.push-requires-in-Some
push-requires-in-Some g c = record { room = omega (arith, room g (goal.at.push-requires-in-Some g c).In-Some) }

pub cell_between-requires-in-Some-clause-from : goal.cell_between-requires-in-Some-clause-from
cell_between-requires-in-Some-clause-from g c = (cells g (goal.at.cell_between-requires-in-Some-clause-from g c).In-Some).0.from

pub push-requires-in-Some-2 : goal.push-requires-in-Some-2
push-requires-in-Some-2 g c =
    let n = ap length c.push-in-Some.ensures in
    record { room = omega (arith, n, room g (goal.at.push-requires-in-Some-2 g c).In-Some) }

pub loop-hand-preserved : goal.loop-hand-preserved
loop-hand-preserved g c =
    let here = (goal.at.loop-hand-preserved g c).In-Some in
    let held = hand g here in
    let s = s g here in
    let x = x g here in
    let logs = g.S.Surface.are_logs c.args.surface.now in
    let in_hand = in_hand g here (sym c.is_clear.ensures ∙ c.if-is_clear.false) in
    let between = middle_is g (goal.at.loop-hand-preserved g c).After-lower_state-lower in
    let none = no_lower s x c.loop-hand.best c.middle-logs.result.packing c.lower_state-lower.result between c.in_default-lower.is in
    let wide = c.is_stuck.ensures.free c.if-is_stuck.false c.in_default-lower.is in
    let left : c.loop-hand.units.spent < c.loop-hand.units.budget = search (rules, c.is_spent.ensures, c.if-is_spent.false) in
    let lower = c.cell_between-in-Some.result in
    let upper = c.cell_between.result in
    let stack : c.push-in-Some-2.new.self ≡ lower ∷ upper ∷ rest g here = c.push-in-Some-2.ensures ∙ ap (λ l. lower ∷ l) c.push-in-Some.ensures in
    let first : span_of lower ≡ span held.from.packing (middle (span_of held)) = rw (c.cell_between-in-Some.ensures.from, c.cell_between-in-Some.ensures.to, c.middle-logs.ensures.at) refl in
    let second : span_of upper ≡ span (middle (span_of held)) held.to.packing = rw (c.cell_between.ensures.from, c.cell_between.ensures.to, c.middle-logs.ensures.at) refl in
    record {
      cells = rw stack (cells_more s x logs lower (upper ∷ rest g here) c.cell_between-in-Some.ensures.cell (cells_more s x logs upper (rest g here) c.cell_between.ensures.cell (cells g here).1));
      deep = rw (stack, first, second) (deep_halves (span_of held) (spans_of (rest g here)) wide (deep g here));
      reaches = rw stack
          (halves (question g here) (budget g here) c.loop-hand.best c.loop-hand.least held lower upper (rest g here) (spent g here) (c.spend.new.self.spent - c.args.units.now.spent) in_hand
          (rw c.middle-logs.ensures.at at none) wide first second
          (omega (arith, left, c.loop-hand.invariant.budget, c.loop-hand.invariant.spent)) (omega (arith, c.spend.ensures.spent, c.loop-hand.invariant.spent)));
      small = c.loop-hand.invariant.small;
      low_small = c.loop-hand.invariant.low_small;
      budget = c.spend.ensures.budget ∙ c.loop-hand.invariant.budget;
      spent = omega (arith, c.spend.ensures.spent, c.loop-hand.invariant.spent);
    }
