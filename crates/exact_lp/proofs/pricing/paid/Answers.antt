use Rattle.std.proofs.Common.{◌≡◌, ℕ, ◌+◌, ◌^◌, ◌<◌, ◌≤◌, pos, unsigned_abs, slice_index_or, to_z, of_z, FitsSigned, arith, rules}
use Rattle.std.specs.Int.{w64, w128}
use Rattle.std.proofs.lemmas.Int.{ints}
use Rattle.exact_lp.specs.declared.points.Costs.{Costs}
use Rattle.exact_lp.proofs.MachineNumbers.{read, entry_small}
use Rattle.exact_lp.proofs.MinorRows.{weight_small}
use Rattle.exact_lp.proofs.pricing.paid.Goals as goal

cost_light : (k : Costs) (i : ℕ) → i < 4 → unsigned_abs (to_z w64 (of_z w64 (slice_index_or k.c i (pos 0)))) ≤ 2 ^ 39
cost_light k i h = omega (arith, ints, entry_small k.c (2 ^ 39 + 1) i h k.small)

cost_back : (k : Costs) (i : ℕ) → i < 4 → to_z w64 (of_z w64 (slice_index_or k.c i (pos 0))) ≡ slice_index_or k.c i (pos 0)
cost_back k i h = omega (arith, ints, entry_small k.c (2 ^ 39 + 1) i h k.small)

pub share-requires-clause-amount_small : goal.share-requires-clause-amount_small
share-requires-clause-amount_small c =
    omega (arith, ints, c.along.ensures.small, weight_small c.args.frame.now.first.a c.args.point.now.x c.args.frame.now.first_small c.args.point.now.light)

pub share-requires-2-clause-amount_small : goal.share-requires-2-clause-amount_small
share-requires-2-clause-amount_small c =
    omega (arith, ints, c.along-2.ensures.small, weight_small c.args.frame.now.second.a c.args.point.now.x c.args.frame.now.second_small c.args.point.now.light)

pub share-requires-3-clause-amount_small : goal.share-requires-3-clause-amount_small
share-requires-3-clause-amount_small c =
    omega (arith, ints, c.along-3.ensures.small, weight_small c.args.frame.now.third.a c.args.point.now.x c.args.frame.now.third_small c.args.point.now.light)

pub share-requires-4-clause-amount_small : goal.share-requires-4-clause-amount_small
share-requires-4-clause-amount_small c =
    omega (arith, ints, c.along-4.ensures.small, weight_small c.args.frame.now.fourth.a c.args.point.now.x c.args.frame.now.fourth_small c.args.point.now.light)

pub share-requires-clause-cost_small : goal.share-requires-clause-cost_small
share-requires-clause-cost_small c = cost_light c.args.costs.now 0 (omega arith)

pub share-requires-2-clause-cost_small : goal.share-requires-2-clause-cost_small
share-requires-2-clause-cost_small c = cost_light c.args.costs.now 1 (omega arith)

pub share-requires-3-clause-cost_small : goal.share-requires-3-clause-cost_small
share-requires-3-clause-cost_small c = cost_light c.args.costs.now 2 (omega arith)

pub share-requires-4-clause-cost_small : goal.share-requires-4-clause-cost_small
share-requires-4-clause-cost_small c = cost_light c.args.costs.now 3 (omega arith)

pub returns-clause-value : goal.returns-clause-value
returns-clause-value c =
    let k = c.args.costs.now in
    let f1 : FitsSigned w128 c.along.result = search rules in
    let f2 : FitsSigned w128 c.along-2.result = search rules in
    let f3 : FitsSigned w128 c.along-3.result = search rules in
    let f4 : FitsSigned w128 c.along-4.result = search rules in
    let g1 : FitsSigned w128 c.share.result = search rules in
    let g2 : FitsSigned w128 c.share-2.result = search rules in
    let g3 : FitsSigned w128 c.share-3.result = search rules in
    let g4 : FitsSigned w128 c.share-4.result = search rules in
    let g : FitsSigned w128 c.four.result = search rules in
    let e1 = rw (read c.along.result f1, cost_back k 0 (omega arith), c.along.ensures.value) at c.share.ensures.value in
    let e2 = rw (read c.along-2.result f2, cost_back k 1 (omega arith), c.along-2.ensures.value) at c.share-2.ensures.value in
    let e3 = rw (read c.along-3.result f3, cost_back k 2 (omega arith), c.along-3.ensures.value) at c.share-3.ensures.value in
    let e4 = rw (read c.along-4.result f4, cost_back k 3 (omega arith), c.along-4.ensures.value) at c.share-4.ensures.value in
    rw (read c.four.result g) (rw (read c.share.result g1, read c.share-2.result g2, read c.share-3.result g3, read c.share-4.result g4, e1, e2, e3, e4) at c.four.ensures.value)
