use Rattle.std.proofs.Common.{◌≡◌, ℕ, List, ◌+◌, ◌*◌, ◌^◌, ◌<◌, ◌≤◌, ℤ, pos, ◌*ℤ◌, arith, unsigned_abs, slice_index, slice_index_or, to_z, of_z, FitsSigned, rules, ◌∙◌}
use Rattle.std.specs.Int.{w128}
use Rattle.log_laws.specs.Sums.{int_sum_below}
use Rattle.exact_lp.specs.Frames.{along}
use Rattle.exact_lp.specs.declared.normals.Row.{Row}
use Rattle.log_laws.proofs.Exports.{back}
use Rattle.exact_lp.proofs.MachineNumbers.{read, entry_small, product_small}
use Rattle.exact_lp.proofs.normals.along.Goals as goal
use Rattle.exact_lp.proofs.LiveParts.{from_nothing}

entry_read : (r : Row) (i : ℕ) → i < 4 → to_z w128 (of_z w128 (slice_index_or r.a i (pos 0))) ≡ slice_index_or r.a i (pos 0)
entry_read r i h = back (slice_index_or r.a i (pos 0)) (omega (arith, entry_small r.a (2 ^ 101 + 1) i h r.small))

entry_light : (r : Row) (i x : ℕ) → i < 4 → unsigned_abs (slice_index_or r.a i (pos 0)) * x ≤ 2 ^ 101 * x
entry_light r i x h = product_small (unsigned_abs (slice_index_or r.a i (pos 0))) x (2 ^ 101) (omega (arith, entry_small r.a (2 ^ 101 + 1) i h r.small))

abbrev term : Row → List ℕ → ℕ → ℤ
term r x i = slice_index_or r.a i (pos 0) *ℤ pos (slice_index x i)

pub sum_of_products-requires : goal.sum_of_products-requires
sum_of_products-requires c =
    let r = c.args.row.now in
    let x = c.args.point.now.x in
    rw (entry_read r 0 (omega arith), entry_read r 1 (omega arith), entry_read r 2 (omega arith), entry_read r 3 (omega arith))
    (omega (arith, entry_light r 0 (slice_index x 0) (omega arith), entry_light r 1 (slice_index x 1) (omega arith), entry_light r 2 (slice_index x 2) (omega arith), entry_light r 3 (slice_index x 3) (omega arith), c.args.point.now.light))

pub returns-clause-value : goal.returns-clause-value
unfolding along int_sum_below
returns-clause-value c =
    let r = c.args.row.now in
    let x = c.args.point.now.x in
    let f : FitsSigned w128 c.sum_of_products.result = search rules in
    let e = rw (entry_read r 0 (omega arith), entry_read r 1 (omega arith), entry_read r 2 (omega arith), entry_read r 3 (omega arith)) at c.sum_of_products.ensures.value in
    rw (read c.sum_of_products.result f) (e ∙ from_nothing (term r x 0) (term r x 1) (term r x 2) (term r x 3))

pub returns-clause-small : goal.returns-clause-small
returns-clause-small c =
    let r = c.args.row.now in
    let f : FitsSigned w128 c.sum_of_products.result = search rules in
    let e = rw (entry_read r 0 (omega arith), entry_read r 1 (omega arith), entry_read r 2 (omega arith), entry_read r 3 (omega arith)) at c.sum_of_products.ensures.small in
    rw (read c.sum_of_products.result f) (omega (arith, e))
