use Rattle.std.proofs.Common.{ℕ, ◌*◌, ◌^◌, ◌<◌, ◌≤◌, slice_index, arith}
use Rattle.std.proofs.Math.Nat.{mul-le-mul}
use Rattle.log_laws.proofs.Exports.{le-sum_below}
use Rattle.cert_check.proofs.testing.adds_up_at.Goals as goal

-- a part of the feed and the sum of a split have a product that fits
product_fits : (z total sum : ℕ) → z ≤ total → total ≤ 2 ^ 20 → sum < 2 ^ 104 → z * sum < 2 ^ 128
product_fits z total sum h l k = let a : z ≤ 2 ^ 20 = omega arith in let b : sum ≤ 2 ^ 104 = omega arith in let p : z * sum ≤ 2 ^ 20 * 2 ^ 104 = mul-le-mul a b in omega arith

pub overflow_mul-result-2 : goal.overflow_mul-result-2
overflow_mul-result-2 c =
    let case = c.args.head.now.params.case in
    let split = c.args.head.now.split in
    let l = le-sum_below case.n c.args.i (slice_index case.z) c.requires in
    let h : slice_index case.z c.args.i ≤ case.total = omega (arith, l, case.added) in
    let p = product_fits (slice_index case.z c.args.i) case.total split.sum h case.total_high split.small in
    omega (arith, p)
