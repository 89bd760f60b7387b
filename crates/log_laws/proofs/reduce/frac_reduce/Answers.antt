use Rattle.std.proofs.Common.{◌≡◌, rules, to_z, of_z}
use mir.Syntax.{w128}
use Rattle.log_laws.proofs.Lowest.{quotient_positive, lowest, same_quotient, size_of_quotient}
use Rattle.log_laws.proofs.reduce.frac_reduce.Goals as goal

pub invariant_of-result : goal.invariant_of-result
invariant_of-result c = record { positive = quotient_positive c.args.a.den c.greatest_divisor-divisor.result c.greatest_divisor-divisor.ensures.gcd.1 c.args.a.positive }

pub returns-clause-same : goal.returns-clause-same
returns-clause-same c =
    let e : to_z w128 (of_z w128 c.with_sign.result) ≡ c.with_sign.result = search rules in
    let k : to_z w128 (of_z w128 c.args.a.num) ≡ c.args.a.num = search rules in
    let v = rw k at c.unsigned_abs-size.ensures.value in
    let g = c.greatest_divisor-divisor.ensures.gcd in
    let n = rw (k, v) at c.with_sign.ensures.negative in
    let p = rw (k, v) at c.with_sign.ensures.positive in
    rw e (same_quotient c.args.a.num c.with_sign.result c.args.a.den c.greatest_divisor-divisor.result (rw v at g.0) g.1 n p)

pub returns-clause-lowest : goal.returns-clause-lowest
returns-clause-lowest c =
    let e : to_z w128 (of_z w128 c.with_sign.result) ≡ c.with_sign.result = search rules in
    let k : to_z w128 (of_z w128 c.args.a.num) ≡ c.args.a.num = search rules in
    let v = rw k at c.unsigned_abs-size.ensures.value in
    let n = rw (k, v) at c.with_sign.ensures.negative in
    let p = rw (k, v) at c.with_sign.ensures.positive in
    let s = size_of_quotient c.args.a.num c.with_sign.result c.greatest_divisor-divisor.result n p in
    rw (e, s, ← v) (lowest c.unsigned_abs-size.result c.args.a.den c.greatest_divisor-divisor.result c.greatest_divisor-divisor.ensures.positive c.greatest_divisor-divisor.ensures.gcd)
