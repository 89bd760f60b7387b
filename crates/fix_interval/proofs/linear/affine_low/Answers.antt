use Rattle.std.proofs.Common.{◌≡◌, ◌∙◌, ℤ, neg_ℤ, ◌-ℤ◌, arith, pos, slice_index, to_z, of_z}
use Rattle.std.specs.Int.{w128}
use Rattle.std.proofs.lemmas.Int.{ints}
use Rattle.log_laws.proofs.Exports.{back, opposite_read}
use Rattle.fix_interval.proofs.Steps.{low_is}
use Rattle.fix_interval.proofs.linear.affine_low.Goals as goal

pub returns-clause-value : goal.returns-clause-value
returns-clause-value c =
    let s = c.affine_high.ensures.small in
    let read = back c.affine_high.result (omega (arith, s)) in
    let low = low_is c.args.rest c.args.last c.args.less (to_z w128 (of_z w128 (pos 0 -ℤ to_z w128 (of_z w128 c.args.last))))
    (to_z w128 (of_z w128 (pos 0 -ℤ to_z w128 (of_z w128 c.args.less)))) c.args.numbers.now c.opposites.result (slice_index c.args.lo.now) (slice_index c.args.hi.now)
    c.affine_high.result c.requires.few (opposite_read c.args.last (omega (arith, c.requires.last))) (opposite_read c.args.less (omega (arith, c.requires.less)))
    c.opposites.ensures.value c.affine_high.ensures.value in
    rw (read, back (pos 0 -ℤ c.affine_high.result) (omega (arith, ints, s)))
    (minus c.affine_high.result ∙ low)
  where
    minus : (z : ℤ) → pos 0 -ℤ z ≡ neg_ℤ z
    minus z = omega (arith, ints)
