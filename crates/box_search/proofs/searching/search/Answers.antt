mod Hand
use Rattle.std.proofs.Common.{◌≡◌, ◌≤◌, ◌+◌, ◌-◌, ◌*◌, [], ◌∷◌, ◌++◌, length, neg_ℤ, to_z, of_z, ◌≤ℤ◌, ap, sym, refl, ◌∙◌, inl, inr, arith}
use Rattle.std.specs.Int.{w128}
use Rattle.std.proofs.lemmas.Int.{ints}
use Rattle.std.proofs.lemmas.List.{append-nil}
use Rattle.log_laws.proofs.Exports.{back}
use Rattle.case_types.specs.Grid.Cells.{region_of, root_region, lower_half, upper_half, edge_length}
use Rattle.case_types.specs.Grid.Columns.{point_of}
use Rattle.energy_surface.specs.Surfaces.{under}
use Rattle.energy_surface.specs.declared.found.Found.TheVariants.{AllClear, Refuted}
use Rattle.energy_surface.proofs.Exports.{grain_of_hand}
use Rattle.box_search.specs.Leaves.{Clears}
use Rattle.box_search.specs.Parts.{meanings, HasParts, HaveParts}
use Rattle.box_search.proofs.Letters.{no_more, one_more, writes}
use Rattle.box_search.proofs.Deep.{deep_root, deep_rest, deep_room, deep_halves}
use Rattle.box_search.proofs.Kept.{parts_top, parts_two}
use Rattle.box_search.proofs.Halving.{Owned, lower_parts, upper_parts}
use Rattle.box_search.proofs.Root.{begun_rest}
use Rattle.box_search.proofs.Causes.{middle_refutes, cut_off, unit_edge, no_unit_edge, wide_edge, edge_named, edge_inside, unspent}
use Rattle.box_search.proofs.SoFar.{IsLesser, root_meets, begins, passes, clears, halves, ended, stops_grain, low_clear}
use Rattle.box_search.proofs.searching.search.Answers.Hand.{delta_read, root_not_clear, cell_uncleared, cell_left, leaf_below, far_below, stopped_letters, stopped}
use Rattle.box_search.proofs.searching.search.Goals.{In-Some}
use Rattle.box_search.proofs.searching.search.Goals as goal

-- the cell on top and the others have their parts
own_parts : (g : _) (c : In-Some g) →
    HasParts (meanings (g.S.Surface.bounds c.args.surface.now).count (g.S.Surface.is_mix_low c.args.surface.now) (g.S.Surface.is_mix_up c.args.surface.now) (g.S.Surface.are_logs c.args.surface.now) (g.S.Surface.is_mix_slope c.args.surface.now) (g.S.Surface.is_packing_slope c.args.surface.now)) c.args.plane.now.lam c.in-Some.half
    × HaveParts (meanings (g.S.Surface.bounds c.args.surface.now).count (g.S.Surface.is_mix_low c.args.surface.now) (g.S.Surface.is_mix_up c.args.surface.now) (g.S.Surface.are_logs c.args.surface.now) (g.S.Surface.is_mix_slope c.args.surface.now) (g.S.Surface.is_packing_slope c.args.surface.now)) c.args.plane.now.lam c.pop.new.self.halves
own_parts g c =
    parts_top (meanings (g.S.Surface.bounds c.args.surface.now).count (g.S.Surface.is_mix_low c.args.surface.now) (g.S.Surface.is_mix_up c.args.surface.now) (g.S.Surface.are_logs c.args.surface.now) (g.S.Surface.is_mix_slope c.args.surface.now) (g.S.Surface.is_packing_slope c.args.surface.now))
    c.args.plane.now.lam c.loop-half.stack.halves c.pop.new.self.halves c.in-Some.half c.in-Some.ensures.halves c.loop-half.invariant.parts

-- ---- the loop
pub loop-half-init : goal.loop-half-init
loop-half-init g c =
    let s = g.S.Surface.bounds c.args.surface.now in
    let first : c.new-stack.result.regions ≡ root_region s.count ∷ [] = c.new-stack.ensures.whole ∙ ap (λ r. r ∷ []) c.whole.ensures.whole in
    let n : length c.new-stack.result.regions ≡ 1 = ap length first in
    let none : 2 * (c.args.units.now.spent - c.args.units.now.spent) + 1 - 1 ≡ 0 = omega arith in
    let halvings = rw c.whole.ensures.whole at c.whole.ensures.halvings in
    record {
      parts = rw c.new-stack.ensures.halves (c.whole.ensures.parts c.args.plane.now.lam, tt);
      deep = rw first (deep_root s.count (omega (arith, c.count-n.ensures.value, c.count-n.ensures.four)) halvings);
      begun = inl first;
      low = omega (arith, ints, c.requires.delta_low, c.requires.delta_high);
      high = omega (arith, ints);
      budget = refl;
      spent = omega arith;
      letters = rw (n, none) (no_more c.args.letters.now);
      so_far =
          begins (under (g.S.Surface.bounds c.args.surface.now) c.args.plane.now.lam _) c.args.letters.now.items (c.args.units.now.spent - c.args.units.now.spent) c.new-stack.result.regions
          first (omega arith);
      counted = omega (arith, n);
    }

pub loop-half-preserved-in_default-made : goal.loop-half-preserved-in_default-made
loop-half-preserved-in_default-made g c =
    let old = c.loop-half.invariant in
    let e = c.in-Some.ensures.some in
    let leaf = c.see-seen.result.leaf in
    let n : length c.loop-half.stack.regions ≡ length c.pop.new.self.regions + 1 = ap length e ∙ omega arith in
    let spent = c.loop-half.units.spent - c.args.units.now.spent in
    let more = one_more c.args.letters.now c.loop-half.letters c.push-in_default-made.new.self (2 * spent + 1 - length c.loop-half.stack.regions) leaf.letter old.letters c.push-in_default-made.ensures.items c.push-in_default-made.ensures.room in
    let count : 2 * spent + 1 - length c.loop-half.stack.regions + 1 ≡ 2 * spent + 1 - length c.pop.new.self.regions = omega (arith, n, old.counted) in
    let delta = back c.args.delta (omega (arith, ints, c.requires.delta_low, c.requires.delta_high)) in
    let above : neg_ℤ c.args.delta ≤ℤ leaf.low = rw (c.in_default-made.is, delta) at c.see-seen.ensures.above in
    let clear : Clears (under (g.S.Surface.bounds c.args.surface.now) c.args.plane.now.lam c.args.delta) (region_of c.in-Some.half.cell) leaf = rw (c.in_default-made.is, delta) at c.see-seen.ensures.cleared in
    let own = back leaf.low (omega (arith, c.see-seen.ensures.small)) in
    let low = rw delta at old.low in
    let either = c.smaller-low.ensures.either (neg_ℤ c.args.delta) low (rw own above) in
    let read = back c.smaller-low.result (omega (arith, ints, either, old.high, c.smaller-low.ensures.first, c.requires.delta_low, c.requires.delta_high)) in
    let lesser : IsLesser (to_z w128 c.loop-half.low-bits) leaf.low c.smaller-low.result =
    (c.smaller-low.ensures.first, rw own at c.smaller-low.ensures.second, λ z h k. c.smaller-low.ensures.either z h (rw own k)) in
    record {
      parts = (own_parts g (goal.at.loop-half-preserved-in_default-made g c).In-Some).1;
      deep = deep_rest (region_of c.in-Some.half.cell) c.pop.new.self.regions (rw e at old.deep);
      begun = begun_rest (under (g.S.Surface.bounds c.args.surface.now) c.args.plane.now.lam (to_z w128 (of_z w128 c.args.delta))) (region_of c.in-Some.half.cell) c.loop-half.stack.regions c.pop.new.self.regions e old.begun;
      low = rw (delta, read) either;
      high = rw read (omega (arith, ints, old.high, c.smaller-low.ensures.first));
      budget = old.budget;
      spent = old.spent;
      letters = rw count at more;
      so_far =
          rw (read, delta)
          (clears (under (g.S.Surface.bounds c.args.surface.now) c.args.plane.now.lam c.args.delta) (to_z w128 c.loop-half.low-bits) c.smaller-low.result c.args.letters.now.items c.loop-half.letters.items
          c.push-in_default-made.new.self.items spent (region_of c.in-Some.half.cell) c.loop-half.stack.regions c.pop.new.self.regions leaf e c.push-in_default-made.ensures.items clear
          lesser (omega (arith, ints, c.see-seen.ensures.small)) (rw delta at old.so_far));
      counted = omega (arith, n, old.counted);
    }

pub loop-half-preserved-then-misses : goal.loop-half-preserved-then-misses
loop-half-preserved-then-misses g c =
    let old = c.loop-half.invariant in
    let e = c.in-Some.ensures.some in
    let n : length c.loop-half.stack.regions ≡ length c.pop.new.self.regions + 1 = ap length e ∙ omega arith in
    let spent = c.loop-half.units.spent - c.args.units.now.spent in
    let more = one_more c.args.letters.now c.loop-half.letters c.push.new.self (2 * spent + 1 - length c.loop-half.stack.regions) 109 old.letters c.push.ensures.items c.push.ensures.room in
    let count : 2 * spent + 1 - length c.loop-half.stack.regions + 1 ≡ 2 * spent + 1 - length c.pop.new.self.regions = omega (arith, n, old.counted) in
    record {
      parts = (own_parts g (goal.at.loop-half-preserved-then-misses g c).In-Some).1;
      deep = deep_rest (region_of c.in-Some.half.cell) c.pop.new.self.regions (rw e at old.deep);
      begun = begun_rest (under (g.S.Surface.bounds c.args.surface.now) c.args.plane.now.lam (to_z w128 (of_z w128 c.args.delta))) (region_of c.in-Some.half.cell) c.loop-half.stack.regions c.pop.new.self.regions e old.begun;
      low = old.low;
      high = old.high;
      budget = old.budget;
      spent = old.spent;
      letters = rw count at more;
      so_far =
          passes (under (g.S.Surface.bounds c.args.surface.now) c.args.plane.now.lam _) (to_z w128 c.loop-half.low-bits) c.args.letters.now.items c.loop-half.letters.items
          c.push.new.self.items spent (region_of c.in-Some.half.cell) c.loop-half.stack.regions c.pop.new.self.regions e c.push.ensures.items
          (rw (← c.count-n.ensures.value, ← c.misses.ensures) c.if-misses.true) old.so_far;
      counted = omega (arith, n, old.counted);
    }

pub spend-requires : goal.spend-requires
spend-requires g c = unspent c.loop-half.units.spent c.loop-half.units.budget c.loop-half.units.within (λ e. let t = c.is_spent.ensures.1 e in cc)

pub spend-requires-in-Some : goal.spend-requires-in-Some
spend-requires-in-Some g c =
    unspent c.loop-half.units.spent c.loop-half.units.budget c.loop-half.units.within (λ e. let t = c.is_spent-in-Some.ensures.1 e in cc)

pub push_halves-requires : goal.push_halves-requires
push_halves-requires g c =
    let k = deep_room (region_of c.in-Some.half.cell) c.pop.new.self.regions (rw c.in-Some.ensures.some at c.loop-half.invariant.deep) in
    omega (arith, k)

pub loop-half-preserved : goal.loop-half-preserved
loop-half-preserved g c =
    let old = c.loop-half.invariant in
    let e = c.in-Some.ensures.some in
    let n : length c.loop-half.stack.regions ≡ length c.pop.new.self.regions + 1 = ap length e ∙ omega arith in
    let regions : c.push_halves.new.self.regions ≡ lower_half c.edge_to_halve-edge.result (region_of c.in-Some.half.cell) ∷ upper_half c.edge_to_halve-edge.result (region_of c.in-Some.half.cell) ∷ c.pop.new.self.regions =
    rw (c.halves.ensures.lower, c.halves.ensures.upper) at c.push_halves.ensures.regions in
    let lower_left = rw c.halves.ensures.lower at c.halves.ensures.lower_left in
    let upper_left = rw c.halves.ensures.upper at c.halves.ensures.upper_left in
    let m : length c.push_halves.new.self.regions ≡ length c.pop.new.self.regions + 2 = ap length regions ∙ omega arith in
    let here = goal.at.loop-half-preserved g c in
    let spent = c.loop-half.units.spent - c.args.units.now.spent in
    let next = c.spend-in-Some.ensures.spent in
    let more = one_more c.args.letters.now c.loop-half.letters c.push-in-Some.new.self (2 * spent + 1 - length c.loop-half.stack.regions) c.edge_letter.result old.letters
    c.push-in-Some.ensures.items c.push-in-Some.ensures.room in
    let count : 2 * spent + 1 - length c.loop-half.stack.regions + 1 ≡ 2 * (c.spend-in-Some.new.self.spent - c.args.units.now.spent) + 1 - length c.push_halves.new.self.regions =
    omega (arith, n, m, next, old.spent, old.counted) in
    let delta = delta_read g here.In-Some-made in
    let r = region_of c.in-Some.half.cell in
    let edge = c.edge_to_halve-edge.result in
    let inside = edge_inside c.count-n.result edge c.count-n.ensures.four c.edge_to_halve-edge.ensures.edge in
    record {
      parts =
          let lam = c.args.plane.now.lam in
          let m = (meanings (g.S.Surface.bounds c.args.surface.now).count (g.S.Surface.is_mix_low c.args.surface.now) (g.S.Surface.is_mix_up c.args.surface.now) (g.S.Surface.are_logs c.args.surface.now) (g.S.Surface.is_mix_slope c.args.surface.now) (g.S.Surface.is_packing_slope c.args.surface.now)) in
          let own = own_parts g here.In-Some in
          let owned : Owned m lam c.in-Some.half c.in-Some-made.made c.middle_of-middle.result = record {
            parts = own.0;
            made_own = rw c.in-Some-made.is at c.see-seen.ensures.made;
            at = c.middle_of-middle.ensures.at;
            point = c.middle_of-middle.ensures.parts;
          } in
          let half = c.halves.ensures in
          parts_two m lam c.push_halves.new.self.halves c.pop.new.self.halves c.halves.result.0 c.halves.result.1 c.push_halves.ensures.halves
          (lower_parts m lam edge c.in-Some.half c.halves.result.0 c.in-Some-made.made c.middle_of-middle.result owned half.lower half.lower_from half.lower_to half.lower_shared)
          (upper_parts m lam edge c.in-Some.half c.halves.result.1 c.in-Some-made.made c.middle_of-middle.result owned half.upper half.upper_from half.upper_to half.upper_shared)
          own.1;
      deep = rw regions
          (deep_halves r (lower_half edge r) (upper_half edge r) c.pop.new.self.regions lower_left upper_left (rw e at old.deep));
      begun = rw delta (inr (inr (root_not_clear g here.In-Some-made)));
      low = old.low;
      high = old.high;
      budget = c.spend-in-Some.ensures.budget ∙ old.budget;
      spent = omega (arith, next, old.spent);
      letters = rw count at more;
      so_far =
          rw delta
          (halves (under (g.S.Surface.bounds c.args.surface.now) c.args.plane.now.lam c.args.delta) (to_z w128 c.loop-half.low-bits) c.args.letters.now.items c.loop-half.letters.items
          c.push-in-Some.new.self.items spent (c.spend-in-Some.new.self.spent - c.args.units.now.spent) edge r
          c.loop-half.stack.regions c.pop.new.self.regions c.push_halves.new.self.regions inside e regions (c.push-in-Some.ensures.items ∙ ap (λ x. c.loop-half.letters.items ++ x ∷ []) c.edge_letter.ensures) (
            record { uncleared = cell_uncleared g here.In-Some-made; not_refuting = rw (delta, c.middle_of-middle.ensures.at) at c.in_default-refuting.ensures.none },
            no_unit_edge c.count-n.result (g.S.Surface.bounds c.args.surface.now).count (region_of c.in-Some.half.cell) c.edge_to_halve-edge.result c.is_unit.result
                (sym c.count-n.ensures.value) c.edge_to_halve-edge.ensures.named c.is_unit.ensures.value c.if-is_unit.false,
            edge_named c.count-n.result (g.S.Surface.bounds c.args.surface.now).count r edge (sym c.count-n.ensures.value) c.edge_to_halve-edge.ensures.named,
          )
          (omega (arith, next, old.spent)) (rw delta at old.so_far));
      counted = omega (arith, n, m, next, old.spent, old.counted);
    }

-- ---- the ends
pub returns-then-is_spent-clause-root : goal.returns-then-is_spent-clause-root
returns-then-is_spent-clause-root g c = root_not_clear g (goal.at.returns-then-is_spent-clause-root g c).In-Some-made

pub returns-in-Some-refuting-clause-root : goal.returns-in-Some-refuting-clause-root
returns-in-Some-refuting-clause-root g c = root_not_clear g (goal.at.returns-in-Some-refuting-clause-root g c).In-Some-made

pub returns-then-is_unit-clause-root : goal.returns-then-is_unit-clause-root
returns-then-is_unit-clause-root g c = root_not_clear g (goal.at.returns-then-is_unit-clause-root g c).In-Some-made

pub returns-then-is_spent-2-clause-root : goal.returns-then-is_spent-2-clause-root
returns-then-is_spent-2-clause-root g c = root_not_clear g (goal.at.returns-then-is_spent-2-clause-root g c).In-Some-made

pub returns-then-is_spent-clause-found : goal.returns-then-is_spent-clause-found
returns-then-is_spent-clause-found g c =
    let here = (goal.at.returns-then-is_spent-clause-found g c).In-Some-made in
    let below = leaf_below g here in
    let low = back c.close-low.result (omega (arith, c.close-low.ensures.small)) in
    (rw low (omega (arith, ints, below, c.close-low.ensures.hand)), c.is_spent.ensures.0 c.if-is_spent.true)

pub returns-then-is_spent-2-clause-found : goal.returns-then-is_spent-2-clause-found
returns-then-is_spent-2-clause-found g c =
    let here = (goal.at.returns-then-is_spent-2-clause-found g c).In-Some-made in
    let below = leaf_below g here in
    let low = back c.close-low-then-is_spent-2.result (omega (arith, c.close-low-then-is_spent-2.ensures.small)) in
    (rw low (omega (arith, ints, below, c.close-low-then-is_spent-2.ensures.hand)), c.is_spent-in-Some.ensures.0 c.if-is_spent-2.true)

pub returns-then-is_spent-clause-letters : goal.returns-then-is_spent-clause-letters
returns-then-is_spent-clause-letters g c = stopped_letters g (goal.at.returns-then-is_spent-clause-letters g c).In-Some-made c.close-low.new.letters c.close-low.ensures.letters

pub returns-then-is_unit-clause-letters : goal.returns-then-is_unit-clause-letters
returns-then-is_unit-clause-letters g c = stopped_letters g (goal.at.returns-then-is_unit-clause-letters g c).In-Some-made c.close-low-then-is_unit.new.letters c.close-low-then-is_unit.ensures.letters

pub returns-then-is_spent-2-clause-letters : goal.returns-then-is_spent-2-clause-letters
returns-then-is_spent-2-clause-letters g c = stopped_letters g (goal.at.returns-then-is_spent-2-clause-letters g c).In-Some-made c.close-low-then-is_spent-2.new.letters c.close-low-then-is_spent-2.ensures.letters

-- ---- what is written

pub returns-then-is_spent-clause-searched : goal.returns-then-is_spent-clause-searched
returns-then-is_spent-clause-searched g c =
    let here = (goal.at.returns-then-is_spent-clause-searched g c).In-Some-made in
    let refutes = rw (delta_read g here) at c.in-Some-refuting.ensures.refutes in
    rw (back c.close-low.result (omega (arith, c.close-low.ensures.small)))
    (stopped g here c.close-low.result c.close-low.new.letters.items
    (record {
      uncleared = cell_uncleared g here;
      wants = inl (middle_refutes (under (g.S.Surface.bounds c.args.surface.now) c.args.plane.now.lam c.args.delta) (region_of c.in-Some.half.cell) (point_of c.in-Some-refuting.column) (rw c.middle_of-middle.ensures.at at c.in-Some-refuting.ensures.middle) refutes);
    }) c.close-low.ensures.hand (c.close-low.ensures.closes (region_of c.in-Some.half.cell) (cell_left g here)))

pub returns-in-Some-refuting-clause-searched : goal.returns-in-Some-refuting-clause-searched
returns-in-Some-refuting-clause-searched g c =
    let here = (goal.at.returns-in-Some-refuting-clause-searched g c).In-Some-made in
    let delta = delta_read g here in
    let refutes = rw delta at c.in-Some-refuting.ensures.refutes in
    ended (under (g.S.Surface.bounds c.args.surface.now) c.args.plane.now.lam c.args.delta) (to_z w128 c.loop-half.low-bits) c.args.letters.now.items c.loop-half.letters.items c.loop-half.letters.items
    (c.loop-half.units.spent - c.args.units.now.spent) (c.spend.new.self.spent - c.args.units.now.spent) c.loop-half.stack.regions (region_of c.in-Some.half.cell ∷ c.pop.new.self.regions)
    (Refuted c.in-Some-refuting.column) c.in-Some.ensures.some
    (cut_off (under (g.S.Surface.bounds c.args.surface.now) c.args.plane.now.lam c.args.delta) c.in-Some-refuting.column (region_of c.in-Some.half.cell) (cell_uncleared g here)
    (rw c.middle_of-middle.ensures.at at c.in-Some-refuting.ensures.middle) c.in-Some-refuting.ensures.column refutes)
    (sym (append-nil c.loop-half.letters.items)) (omega (arith, c.spend.ensures.spent, c.loop-half.invariant.spent)) (λ t before e over reached. tt)
    (rw delta at c.loop-half.invariant.so_far)

pub returns-then-is_unit-clause-searched : goal.returns-then-is_unit-clause-searched
returns-then-is_unit-clause-searched g c =
    let here = (goal.at.returns-then-is_unit-clause-searched g c).In-Some-made in
    let delta = delta_read g here in
    rw (back c.close-low-then-is_unit.result (omega (arith, c.close-low-then-is_unit.ensures.small)))
    (stops_grain (under (g.S.Surface.bounds c.args.surface.now) c.args.plane.now.lam c.args.delta) (to_z w128 c.loop-half.low-bits) c.close-low-then-is_unit.result c.args.letters.now.items c.loop-half.letters.items
    c.close-low-then-is_unit.new.letters.items (c.loop-half.units.spent - c.args.units.now.spent) c.in-Some.half.cell c.loop-half.stack.regions c.pop.new.self.regions
    c.in-Some.ensures.some
    (record {
      same = refl;
      stuck = record { uncleared = cell_uncleared g here; not_refuting = rw (delta, c.middle_of-middle.ensures.at) at c.in_default-refuting.ensures.none };
      one_unit = unit_edge c.count-n.result (g.S.Surface.bounds c.args.surface.now).count (region_of c.in-Some.half.cell) c.edge_to_halve-edge.result c.is_unit.result
          (sym c.count-n.ensures.value) c.edge_to_halve-edge.ensures.named c.is_unit.ensures.value c.if-is_unit.true;
    })
    (c.close-low-then-is_unit.ensures.closes (region_of c.in-Some.half.cell) (cell_left g here)) (far_below g here c.close-low-then-is_unit.result c.close-low-then-is_unit.ensures.hand)
    (rw delta at c.loop-half.invariant.so_far))

pub returns-then-is_unit-clause-found : goal.returns-then-is_unit-clause-found
returns-then-is_unit-clause-found g c =
    let here = (goal.at.returns-then-is_unit-clause-found g c).In-Some-made in
    let below = leaf_below g here in
    let low = back c.close-low-then-is_unit.result (omega (arith, c.close-low-then-is_unit.ensures.small)) in
    let searched = (returns-then-is_unit-clause-searched g c).searched in (
      rw low (omega (arith, ints, below, c.close-low-then-is_unit.ensures.hand)),
      grain_of_hand (under (g.S.Surface.bounds c.args.surface.now) c.args.plane.now.lam c.args.delta) (region_of c.in-Some.half.cell) searched.left searched.ends,
    )

pub returns-then-is_spent-2-clause-searched : goal.returns-then-is_spent-2-clause-searched
returns-then-is_spent-2-clause-searched g c =
    let here = (goal.at.returns-then-is_spent-2-clause-searched g c).In-Some-made in
    rw (back c.close-low-then-is_spent-2.result (omega (arith, c.close-low-then-is_spent-2.ensures.small)))
    (stopped g here c.close-low-then-is_spent-2.result c.close-low-then-is_spent-2.new.letters.items
    (record {
      uncleared = cell_uncleared g here;
      wants = inr (no_unit_edge c.count-n.result (g.S.Surface.bounds c.args.surface.now).count (region_of c.in-Some.half.cell) c.edge_to_halve-edge.result c.is_unit.result
          (sym c.count-n.ensures.value) c.edge_to_halve-edge.ensures.named c.is_unit.ensures.value c.if-is_unit.false);
    }) c.close-low-then-is_spent-2.ensures.hand (c.close-low-then-is_spent-2.ensures.closes (region_of c.in-Some.half.cell) (cell_left g here)))

pub returns-clause-searched : goal.returns-clause-searched
returns-clause-searched g c =
    let delta = back c.args.delta (omega (arith, ints, c.requires.delta_low, c.requires.delta_high)) in
    ended (under (g.S.Surface.bounds c.args.surface.now) c.args.plane.now.lam c.args.delta) (to_z w128 c.loop-half.low-bits) c.args.letters.now.items c.loop-half.letters.items c.loop-half.letters.items
    (c.loop-half.units.spent - c.args.units.now.spent) (c.loop-half.units.spent - c.args.units.now.spent) c.loop-half.stack.regions [] (AllClear (to_z w128 c.loop-half.low-bits)) c.in_default.ensures.none refl
    (sym (append-nil c.loop-half.letters.items)) (omega arith)
    (λ t before e over reached. low_clear (g.S.Surface.bounds c.args.surface.now) c.args.plane.now.lam (to_z w128 c.loop-half.low-bits) t (root_region (g.S.Surface.bounds c.args.surface.now).count) before (root_meets (g.S.Surface.bounds c.args.surface.now).count (omega (arith, c.count-n.ensures.value, c.count-n.ensures.four))) e over reached)
    (rw delta at c.loop-half.invariant.so_far)
