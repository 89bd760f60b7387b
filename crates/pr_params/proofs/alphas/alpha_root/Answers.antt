use Rattle.std.proofs.Common.{arith, unsigned_abs, ◌<◌, ◌≡◌, ◌^◌, pos, ◌+ℤ◌, ◌-ℤ◌, ◌*ℤ◌, ◌≤ℤ◌, to_z, of_z, lit<, ap, ◌∙◌}
use Rattle.std.specs.Int.{int_min, int_max, w128}
use Rattle.std.proofs.lemmas.Int.{ints, clamps}
use Rattle.log_laws.specs.Whole.{floor_over, ceil_over}
use Rattle.case_types.specs.Energy.Parameters.{kappa_scale}
use Rattle.fix_interval.proofs.Exports.{floor_over-le-ceil_over}
use Rattle.pr_params.proofs.Alpha.{lo_value, hi_value, min-le-max}
use Rattle.pr_params.proofs.alphas.alpha_root.Goals as goal
use Rattle.pr_params.proofs.alphas.alpha_root.Goals.{After-unscaled_ceil}

lo_small : (c : After-unscaled_ceil) → unsigned_abs c.args.root.lo < 2 ^ 53
lo_small c = omega (arith, ints, c.requires.root_low, c.requires.root_high, c.args.root.ordered)

hi_small : (c : After-unscaled_ceil) → unsigned_abs c.args.root.hi < 2 ^ 53
hi_small c = omega (arith, ints, c.requires.root_low, c.requires.root_high, c.args.root.ordered)

-- the floor and the ceiling that the code computes
floor_is : (c : After-unscaled_ceil) → c.unscaled_floor.result ≡ floor_over (int_min (c.args.kappa *ℤ (pos (2 ^ 48) -ℤ c.args.root.lo)) (c.args.kappa *ℤ (pos (2 ^ 48) -ℤ c.args.root.hi))) kappa_scale
floor_is c =
    lo_value c.args.kappa c.args.root.lo c.args.root.hi c.slope_at-at_lo.result c.slope_at-at_hi.result c.min.result c.unscaled_floor.result
    c.requires.kappa (lo_small c) (hi_small c) c.slope_at-at_lo.ensures.value c.slope_at-at_lo.ensures.small
    c.slope_at-at_hi.ensures.value c.slope_at-at_hi.ensures.small c.min.ensures.value c.unscaled_floor.ensures.value

ceiling_is : (c : After-unscaled_ceil) → c.unscaled_ceil.result ≡ ceil_over (int_max (c.args.kappa *ℤ (pos (2 ^ 48) -ℤ c.args.root.lo)) (c.args.kappa *ℤ (pos (2 ^ 48) -ℤ c.args.root.hi))) kappa_scale
ceiling_is c =
    hi_value c.args.kappa c.args.root.lo c.args.root.hi c.slope_at-at_lo.result c.slope_at-at_hi.result c.max.result c.unscaled_ceil.result
    c.requires.kappa (lo_small c) (hi_small c) c.slope_at-at_lo.ensures.value c.slope_at-at_lo.ensures.small
    c.slope_at-at_hi.ensures.value c.slope_at-at_hi.ensures.small c.max.ensures.value c.unscaled_ceil.ensures.value

pub slope_at-at_lo-requires-clause-root_high : goal.slope_at-at_lo-requires-clause-root_high
slope_at-at_lo-requires-clause-root_high c = omega (arith, ints, c.requires.root_low, c.requires.root_high, c.args.root.ordered)

pub slope_at-at_hi-requires-clause-root_low : goal.slope_at-at_hi-requires-clause-root_low
slope_at-at_hi-requires-clause-root_low c = omega (arith, ints, c.requires.root_low, c.requires.root_high, c.args.root.ordered)

pub overflow_add-result : goal.overflow_add-result
overflow_add-result c = omega (arith, ints)

pub unscaled_ceil-requires : goal.unscaled_ceil-requires
unscaled_ceil-requires c = omega (arith, ints, clamps)

pub overflow_add-result-2 : goal.overflow_add-result-2
overflow_add-result-2 c = omega (arith, ints)

pub returns-clause-lo : goal.returns-clause-lo
returns-clause-lo c =
    let e : to_z w128 (of_z w128 (pos (2 ^ 48) +ℤ to_z w128 (of_z w128 c.unscaled_floor.result))) ≡ pos (2 ^ 48) +ℤ c.unscaled_floor.result = omega (arith, ints) in
    e ∙ ap (λ z. pos (2 ^ 48) +ℤ z) (floor_is (goal.at.returns-clause-lo c).After-unscaled_ceil)

pub returns-clause-hi : goal.returns-clause-hi
returns-clause-hi c =
    let e : to_z w128 (of_z w128 (pos (2 ^ 48) +ℤ to_z w128 (of_z w128 c.unscaled_ceil.result))) ≡ pos (2 ^ 48) +ℤ c.unscaled_ceil.result = omega (arith, ints) in
    e ∙ ap (λ z. pos (2 ^ 48) +ℤ z) (ceiling_is (goal.at.returns-clause-hi c).After-unscaled_ceil)

pub invariant_of-result : goal.invariant_of-result
invariant_of-result c =
    let a = c.args.kappa *ℤ (pos (2 ^ 48) -ℤ c.args.root.lo) in
    let b = c.args.kappa *ℤ (pos (2 ^ 48) -ℤ c.args.root.hi) in
    let order = floor_over-le-ceil_over (int_min a b) (int_max a b) kappa_scale (lit< tt) (min-le-max a b) in
    let o : c.unscaled_floor.result ≤ℤ c.unscaled_ceil.result = rw (floor_is c, ceiling_is c) order in
    record {
      ordered = omega (arith, ints);
      lo_small = omega (arith, ints);
      hi_small = omega (arith, ints);
    }

pub returns-clause-lo_small : goal.returns-clause-lo_small
returns-clause-lo_small c = omega (arith, ints)

pub returns-clause-hi_small : goal.returns-clause-hi_small
returns-clause-hi_small c = omega (arith, ints)
