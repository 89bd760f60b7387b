use Rattle.std.proofs.Common.{◌≡◌, ◌∙◌, ◌+◌, ◌-◌, ◌≤◌, ◌^◌, ℤ, pos, neg_ℤ, ◌-ℤ◌, ◌≤ℤ◌, refl, arith, unsigned_abs, to_z, of_z}
use Rattle.std.specs.Int.{w128}
use Rattle.std.proofs.lemmas.Int.{ints}
use Rattle.log_laws.specs.Squaring.{log_down, log_up}
use Rattle.log_enclose.proofs.Exports.{log_down_power_low, log_up_power_high}
use Rattle.case_types.specs.Arithmetic.Bounds.{lambda_up, lambda_down}
use Rattle.pr_params.proofs.Lambda.{instance_lambda_least, instance_lambda_most}
use Rattle.pr_params.proofs.lambdas.lambda_ends.Goals as goal
use Rattle.pr_params.proofs.lambdas.lambda_ends.Goals.{After-of-below}
use Rattle.log_laws.proofs.Exports.{difference_read}

-- the logarithms of the two quantities, from both sides
above_lo : (c : After-of-below) → c.of-above.result.lo ≡ log_down (2 ^ 40 + c.args.y + c.stretched-lo.result.0) 40
above_lo c = rw c.interval.ensures.lo at c.of-above.ensures.lo

above_hi : (c : After-of-below) → c.of-above.result.hi ≡ log_up (2 ^ 40 + c.args.y + c.stretched-lo.result.1) 40
above_hi c = rw c.interval.ensures.hi at c.of-above.ensures.hi

below_lo : (c : After-of-below) → c.of-below.result.lo ≡ log_down (2 ^ 40 + c.args.y - c.stretched-lo.result.1) 40
below_lo c = rw c.interval-2.ensures.lo at c.of-below.ensures.lo

below_hi : (c : After-of-below) → c.of-below.result.hi ≡ log_up (2 ^ 40 + c.args.y - c.stretched-lo.result.0) 40
below_hi c = rw c.interval-2.ensures.hi at c.of-below.ensures.hi

-- how large they are
above_least : (c : After-of-below) → pos 0 ≤ℤ c.of-above.result.lo
above_least c =
    let s = c.stretched-lo.ensures in
    let k = log_down_power_low (2 ^ 40 + c.args.y + c.stretched-lo.result.0) 40 40 (omega arith) (omega (arith, c.requires, s.ordered, s.high)) (omega arith) in
    rw (above_lo c) (omega (arith, ints, k))

above_most : (c : After-of-below) → c.of-above.result.hi ≤ℤ pos (2 ^ 41)
above_most c =
    let s = c.stretched-lo.ensures in
    let k = log_up_power_high (2 ^ 40 + c.args.y + c.stretched-lo.result.1) 40 42 (omega arith) (omega (arith, c.requires, s.high)) (omega (arith, c.requires, s.high)) in
    rw (above_hi c) (omega (arith, ints, k))

below_least : (c : After-of-below) → neg_ℤ (pos (2 ^ 40)) ≤ℤ c.of-below.result.lo
below_least c =
    let s = c.stretched-lo.ensures in
    let k = log_down_power_low (2 ^ 40 + c.args.y - c.stretched-lo.result.1) 40 39 (omega (arith, s.high)) (omega (arith, c.requires)) (omega (arith, s.high)) in
    rw (below_lo c) (omega (arith, ints, k))

below_most : (c : After-of-below) → c.of-below.result.hi ≤ℤ pos (2 ^ 40)
below_most c =
    let s = c.stretched-lo.ensures in
    let k = log_up_power_high (2 ^ 40 + c.args.y - c.stretched-lo.result.0) 40 41 (omega (arith, s.high, s.ordered)) (omega (arith, c.requires)) (omega (arith, s.low)) in
    rw (below_hi c) (omega (arith, ints, k))

abbrev read : ℤ → ℤ
read z = to_z w128 (of_z w128 z)

-- the ends as they are computed
lo_read : (c : After-of-below) → read (read c.of-above.result.lo -ℤ read c.of-below.result.hi) ≡ c.of-above.result.lo -ℤ c.of-below.result.hi
lo_read c = difference_read c.of-above.result.lo c.of-below.result.hi (let s = c.of-above.result.lo_small in omega (arith, s)) (let s = c.of-below.result.hi_small in omega (arith, s))

hi_read : (c : After-of-below) → read (read c.of-above.result.hi -ℤ read c.of-below.result.lo) ≡ c.of-above.result.hi -ℤ c.of-below.result.lo
hi_read c = difference_read c.of-above.result.hi c.of-below.result.lo (let s = c.of-above.result.hi_small in omega (arith, s)) (let s = c.of-below.result.lo_small in omega (arith, s))

lo_small : (c : After-of-below) → unsigned_abs (c.of-above.result.lo -ℤ c.of-below.result.hi) ≤ 2 ^ 42
lo_small c =
    let least = above_least c in
    let most = above_most c in
    let under = below_least c in
    let over = below_most c in
    omega (arith, ints, least, most, under, over, c.of-above.result.ordered, c.of-below.result.ordered)

hi_small : (c : After-of-below) → unsigned_abs (c.of-above.result.hi -ℤ c.of-below.result.lo) ≤ 2 ^ 42
hi_small c =
    let least = above_least c in
    let most = above_most c in
    let under = below_least c in
    let over = below_most c in
    omega (arith, ints, least, most, under, over, c.of-above.result.ordered, c.of-below.result.ordered)

pub invariant_of-result : goal.invariant_of-result
invariant_of-result c =
    let k = (goal.at.invariant_of-result c).After-of-below in
    let l = lo_small k in
    let h = hi_small k in
    record {
      ordered = rw (lo_read k, hi_read k) (omega (arith, ints, k.of-above.result.ordered, k.of-below.result.ordered));
      lo_small = rw (lo_read k) (omega (arith, l));
      hi_small = rw (hi_read k) (omega (arith, h));
    }

pub returns-clause-lo : goal.returns-clause-lo
unfolding lambda_down
returns-clause-lo c = λ case.
    let k = (goal.at.returns-clause-lo c).After-of-below in
    lo_read k ∙ rw (above_lo k, below_hi k, k.stretched-lo.ensures.down case) refl

pub returns-clause-hi : goal.returns-clause-hi
unfolding lambda_up
returns-clause-hi c = λ case.
    let k = (goal.at.returns-clause-hi c).After-of-below in
    hi_read k ∙ rw (above_hi k, below_lo k, k.stretched-lo.ensures.up case) refl

pub returns-clause-at_least : goal.returns-clause-at_least
returns-clause-at_least c = λ case x y i packing order. instance_lambda_least case x y c.args.y _ (returns-clause-lo c case) c.requires i packing order

pub returns-clause-at_most : goal.returns-clause-at_most
returns-clause-at_most c = λ case x y i packing order. instance_lambda_most case x y c.args.y _ (returns-clause-hi c case) c.requires i packing order

pub returns-clause-lo_small : goal.returns-clause-lo_small
returns-clause-lo_small c = let k = (goal.at.returns-clause-lo_small c).After-of-below in rw (lo_read k) (lo_small k)

pub returns-clause-hi_small : goal.returns-clause-hi_small
returns-clause-hi_small c = let k = (goal.at.returns-clause-hi_small c).After-of-below in rw (hi_read k) (hi_small k)
