use Rattle.std.proofs.Common.{ℕ, ◌≡◌, ◌*◌, ◌^◌, ◌<◌, ◌≤◌, slice_index, arith, refl, below_more}
use Rattle.std.proofs.Math.Nat.{mul-le-mul}
use Rattle.log_laws.proofs.Exports.{le-sum_below}
use Rattle.case_types.specs.Energy.Divisions.{division_of, parts_in}
use Rattle.case_types.specs.Energy.Components.{feed}
use Rattle.case_types.proofs.adding.matches_feed.Goals as goal

-- a part of the feed and the sum of a split have a product that fits
product_fits : (z total sum : ℕ) → z ≤ total → total ≤ 2 ^ 20 → sum < 2 ^ 104 → z * sum < 2 ^ 128
product_fits z total sum h l k = let a : z ≤ 2 ^ 20 = omega arith in let b : sum ≤ 2 ^ 104 = omega arith in let p : z * sum ≤ 2 ^ 20 * 2 ^ 104 = mul-le-mul a b in omega arith

pub overflow_mul-case-in-loop-i : goal.overflow_mul-case-in-loop-i
overflow_mul-case-in-loop-i c =
    let case = c.args.case.now in
    let l = le-sum_below case.n c.loop-i.i (slice_index case.z) c.loop-i-test.true in
    let h : slice_index case.z c.loop-i.i ≤ case.total = omega (arith, l, case.added) in
    let p = product_fits (slice_index case.z c.loop-i.i) case.total c.args.split.now.sum h case.total_high c.args.split.now.small in
    omega (arith, p)

pub loop-i-preserved : goal.loop-i-preserved
loop-i-preserved c =
    let here = rw c.parts_of.ensures.value at c.if-case-parts_of.false in
    below_more
    (λ (k : ℕ). c.args.case.now.total * parts_in (division_of c.args.split.now).phases k ≡ feed c.args.case.now k * c.args.split.now.sum)
    c.loop-i.i c.loop-i.invariant here

pub returns : goal.returns
returns c = (λ t k l. c.loop-i.invariant k (omega (arith, l, c.loop-i-test.false)), λ a. refl)
