use Rattle.std.proofs.Common.{◌+◌, ◌^◌, to_z, of_z, FitsSigned, refl, arith, rules}
use Rattle.std.specs.Int.{w128}
use Rattle.std.proofs.lemmas.Int.{ints}
use Rattle.exact_lp.proofs.MachineNumbers.{read, four_small}
use Rattle.exact_lp.proofs.MinorRows.{weight_small}
use Rattle.exact_lp.proofs.pivoting.amounts_for.Goals as goal

pub invariant_of-result : goal.invariant_of-result
invariant_of-result c =
    let f = c.args.frame.now in
    let x = c.args.point.now in
    record {
      small = four_small (to_z w128 (of_z w128 c.along.result)) (to_z w128 (of_z w128 c.along-2.result)) (to_z w128 (of_z w128 c.along-3.result)) (to_z w128 (of_z w128 c.along-4.result)) (2 ^ 80 + 1)
          (omega (arith, ints, c.along.ensures.small, weight_small f.first.a x.x f.first_small x.light))
          (omega (arith, ints, c.along-2.ensures.small, weight_small f.second.a x.x f.second_small x.light))
          (omega (arith, ints, c.along-3.ensures.small, weight_small f.third.a x.x f.third_small x.light))
          (omega (arith, ints, c.along-4.ensures.small, weight_small f.fourth.a x.x f.fourth_small x.light));
    }

pub returns : goal.returns
returns c =
    let f1 : FitsSigned w128 c.along.result = search rules in
    let f2 : FitsSigned w128 c.along-2.result = search rules in
    let f3 : FitsSigned w128 c.along-3.result = search rules in
    let f4 : FitsSigned w128 c.along-4.result = search rules in
    rw (read c.along.result f1, read c.along-2.result f2, read c.along-3.result f3, read c.along-4.result f4, c.along.ensures.value, c.along-2.ensures.value, c.along-3.ensures.value, c.along-4.ensures.value) refl
