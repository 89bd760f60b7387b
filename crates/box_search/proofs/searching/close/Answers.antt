use Rattle.std.proofs.Common.{◌≡◌, ◌+◌, ◌-◌, ◌∙◌, ◌^◌, ◌∷◌, ◌≤◌, ◌≤ℤ◌, ℤ, pos, neg_ℤ, unsigned_abs, length, to_z, of_z, ap, refl, arith}
use Rattle.std.specs.Int.{w128}
use Rattle.std.proofs.lemmas.Int.{ints}
use Rattle.log_laws.proofs.Exports.{back, abs_within}
use Rattle.case_types.specs.Grid.Cells.{region_of}
use Rattle.box_search.specs.Parts.{meanings, HasParts, HaveParts}
use Rattle.box_search.proofs.Kept.{parts_top}
use Rattle.box_search.proofs.Letters.{no_more, one_more}
use Rattle.box_search.proofs.SoFar.{IsLesser}
use Rattle.box_search.proofs.Closing.{close_begins, close_more, close_passes, closed}
use Rattle.box_search.proofs.searching.close.Goals.{In-Some}
use Rattle.box_search.proofs.searching.close.Goals as goal

-- the cell on top and the others have their parts
own_parts : (g : _) (c : In-Some g) →
    let m = meanings (g.S.Surface.bounds c.args.surface.now).count (g.S.Surface.is_mix_low c.args.surface.now) (g.S.Surface.is_mix_up c.args.surface.now) (g.S.Surface.are_logs c.args.surface.now) (g.S.Surface.is_mix_slope c.args.surface.now) (g.S.Surface.is_packing_slope c.args.surface.now) in
    HasParts m c.args.plane.now.lam c.in-Some.half × HaveParts m c.args.plane.now.lam c.pop.new.self.halves
own_parts g c =
    parts_top (meanings (g.S.Surface.bounds c.args.surface.now).count (g.S.Surface.is_mix_low c.args.surface.now) (g.S.Surface.is_mix_up c.args.surface.now) (g.S.Surface.are_logs c.args.surface.now) (g.S.Surface.is_mix_slope c.args.surface.now) (g.S.Surface.is_packing_slope c.args.surface.now))
    c.args.plane.now.lam c.loop-half.stack.halves c.pop.new.self.halves c.in-Some.half c.in-Some.ensures.halves c.loop-half.invariant.parts

-- a number that is the lesser of two as they are read
lesser_read : (low own least : ℤ) → unsigned_abs low ≤ 2 ^ 107 → unsigned_abs own ≤ 2 ^ 107 →
    least ≤ℤ low → least ≤ℤ to_z w128 (of_z w128 own) → ((z : ℤ) → z ≤ℤ low → z ≤ℤ to_z w128 (of_z w128 own) → z ≤ℤ least) → IsLesser low own least × (unsigned_abs least ≤ 2 ^ 107)
lesser_read low own least small own_small first second either =
    let read = back own (omega (arith, own_small)) in
    let above = either (neg_ℤ (pos (2 ^ 107))) (omega (arith, ints, small)) (rw read (omega (arith, ints, own_small))) in (
      (first, rw read at second, λ z h k. either z h (rw read k)),
      abs_within least (2 ^ 107) above (omega (arith, ints, small, first)),
    )

pub loop-half-init : goal.loop-half-init
loop-half-init g c =
    let old = c.args.letters.now in
    let none : length c.args.stack.regions - length c.args.stack.regions + 1 ≡ 0 + 1 = omega arith in
    let low = back c.args.low (omega (arith, c.requires.small)) in
    let lesser = lesser_read c.args.low c.args.hand.now.low c.smaller-low.result c.requires.small c.requires.hand_small (rw low at c.smaller-low.ensures.first) c.smaller-low.ensures.second (rw low at c.smaller-low.ensures.either) in
    let read = back c.smaller-low.result (omega (arith, lesser.1)) in
    record {
      parts = c.requires.parts;
      low = rw read lesser.0.1;
      small = rw read lesser.1;
      letters = rw none (one_more old old c.push.new.self 0 c.args.hand.now.letter (no_more old) c.push.ensures.items c.push.ensures.room);
      left = omega arith;
      room = omega (arith, c.requires.room, c.push.ensures.room);
      closing = λ r left.
          rw (read, low)
          (close_more (g.S.Surface.bounds c.args.surface.now) c.args.plane.now.lam c.args.low c.args.low c.smaller-low.result (r ∷ c.args.stack.regions) (r ∷ c.args.stack.regions) c.args.stack.regions old.items old.items
          c.push.new.self.items r c.args.hand.now left refl c.push.ensures.items lesser.0 (close_begins (g.S.Surface.bounds c.args.surface.now) c.args.plane.now.lam c.args.low (r ∷ c.args.stack.regions) old.items));
    }

pub loop-half-preserved : goal.loop-half-preserved
loop-half-preserved g c =
    let n : length c.loop-half.stack.regions ≡ length c.pop.new.self.regions + 1 = ap length c.in-Some.ensures.some ∙ omega arith in
    let old = c.loop-half.invariant in
    let more = one_more c.args.letters.now c.loop-half.letters c.push-else-misses.new.self (length c.args.stack.regions - length c.loop-half.stack.regions + 1) c.left-leaf.result.letter
    old.letters c.push-else-misses.ensures.items c.push-else-misses.ensures.room in
    let count : length c.args.stack.regions - length c.loop-half.stack.regions + 1 + 1 ≡ length c.args.stack.regions - length c.pop.new.self.regions + 1 = omega (arith, n, old.left) in
    let lesser = lesser_read (to_z w128 c.loop-half.low-bits) c.left-leaf.result.low c.smaller-low-else-misses.result old.small c.left-leaf.ensures.small
    c.smaller-low-else-misses.ensures.first c.smaller-low-else-misses.ensures.second c.smaller-low-else-misses.ensures.either in
    let read = back c.smaller-low-else-misses.result (omega (arith, lesser.1)) in
    record {
      parts = (own_parts g (goal.at.loop-half-preserved g c).In-Some).1;
      low = rw read (omega (arith, ints, old.low, lesser.0.0));
      small = rw read lesser.1;
      letters = rw count at more;
      left = omega (arith, n, old.left);
      room = omega (arith, n, old.room, c.push-else-misses.ensures.room);
      closing = λ r left.
          rw read
          (close_more (g.S.Surface.bounds c.args.surface.now) c.args.plane.now.lam _ (to_z w128 c.loop-half.low-bits) c.smaller-low-else-misses.result (r ∷ c.args.stack.regions) c.loop-half.stack.regions c.pop.new.self.regions
          c.args.letters.now.items c.loop-half.letters.items c.push-else-misses.new.self.items (region_of c.in-Some.half.cell) c.left-leaf.result c.left-leaf.ensures.left c.in-Some.ensures.some c.push-else-misses.ensures.items
          lesser.0 (old.closing r left));
    }

pub loop-half-preserved-then-misses : goal.loop-half-preserved-then-misses
loop-half-preserved-then-misses g c =
    let n : length c.loop-half.stack.regions ≡ length c.pop.new.self.regions + 1 = ap length c.in-Some.ensures.some ∙ omega arith in
    let old = c.loop-half.invariant in
    let more = one_more c.args.letters.now c.loop-half.letters c.push-then-misses.new.self (length c.args.stack.regions - length c.loop-half.stack.regions + 1) 109
    old.letters c.push-then-misses.ensures.items c.push-then-misses.ensures.room in
    let count : length c.args.stack.regions - length c.loop-half.stack.regions + 1 + 1 ≡ length c.args.stack.regions - length c.pop.new.self.regions + 1 = omega (arith, n, old.left) in
    record {
      parts = (own_parts g (goal.at.loop-half-preserved-then-misses g c).In-Some).1;
      low = old.low;
      small = old.small;
      letters = rw count at more;
      left = omega (arith, n, old.left);
      room = omega (arith, n, old.room, c.push-then-misses.ensures.room);
      closing = λ r left.
          close_passes (g.S.Surface.bounds c.args.surface.now) c.args.plane.now.lam _ (to_z w128 c.loop-half.low-bits) (r ∷ c.args.stack.regions) c.loop-half.stack.regions c.pop.new.self.regions
          c.args.letters.now.items c.loop-half.letters.items c.push-then-misses.new.self.items (region_of c.in-Some.half.cell)
          (rw (← c.count-n.ensures.value, ← c.misses.ensures) c.if-misses.true) c.in-Some.ensures.some c.push-then-misses.ensures.items (old.closing r left);
    }

pub returns-clause-closes : goal.returns-clause-closes
returns-clause-closes g c = λ r left.
    closed (g.S.Surface.bounds c.args.surface.now) c.args.plane.now.lam c.args.low (to_z w128 c.loop-half.low-bits) (r ∷ c.args.stack.regions) c.loop-half.stack.regions c.args.letters.now.items c.loop-half.letters.items
    c.in_default.ensures.none
    (rw (back c.args.low (omega (arith, c.requires.small))) at c.loop-half.invariant.closing r left)
