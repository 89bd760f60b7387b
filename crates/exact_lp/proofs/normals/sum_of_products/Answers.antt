use Rattle.std.proofs.Common.{◌≡◌, ℤ, pos, ◌+ℤ◌, ◌*ℤ◌, arith, FitsSigned, rules}
use Rattle.std.specs.Int.{w128}
use Rattle.std.proofs.lemmas.Int.{ints}
use Rattle.exact_lp.proofs.MachineNumbers.{read}
use Rattle.exact_lp.proofs.normals.sum_of_products.Goals as goal

from_nothing : (x : ℤ) → pos 0 +ℤ x ≡ x
from_nothing x = omega (arith, ints)

pub plus_times-requires : goal.plus_times-requires
plus_times-requires c =
    let a = read c.args.a c.ranges.a in
    let b = read c.args.b c.ranges.b in
    let d = read c.args.c c.ranges.c in
    let e = read c.args.d c.ranges.d in
    let f1 : FitsSigned w128 c.plus_times-first.result = search rules in
    let f2 : FitsSigned w128 c.plus_times-second.result = search rules in
    let f3 : FitsSigned w128 c.plus_times-third.result = search rules in
    let first = rw a at c.plus_times-first.ensures.small in
    let second = rw (b, read c.plus_times-first.result f1) at c.plus_times-second.ensures.small in
    let third = rw (d, read c.plus_times-second.result f2) at c.plus_times-third.ensures.small in
    record { light = rw (e, read c.plus_times-third.result f3) (omega (arith, first, second, third, c.requires)) }

pub returns-clause-value : goal.returns-clause-value
returns-clause-value c =
    let a = read c.args.a c.ranges.a in
    let b = read c.args.b c.ranges.b in
    let d = read c.args.c c.ranges.c in
    let e = read c.args.d c.ranges.d in
    let f1 : FitsSigned w128 c.plus_times-first.result = search rules in
    let f2 : FitsSigned w128 c.plus_times-second.result = search rules in
    let f3 : FitsSigned w128 c.plus_times-third.result = search rules in
    let f4 : FitsSigned w128 c.plus_times.result = search rules in
    let first = rw (a, from_nothing (c.args.a *ℤ pos c.args.x)) at c.plus_times-first.ensures.value in
    let second = rw (b, read c.plus_times-first.result f1, first) at c.plus_times-second.ensures.value in
    let third = rw (d, read c.plus_times-second.result f2, second) at c.plus_times-third.ensures.value in
    let fourth = rw (e, read c.plus_times-third.result f3, third) at c.plus_times.ensures.value in
    rw (read c.plus_times.result f4) fourth
