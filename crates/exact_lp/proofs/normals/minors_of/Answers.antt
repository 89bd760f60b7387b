use Rattle.std.proofs.Common.{◌+◌, ◌^◌, to_z, of_z, FitsSigned, arith, rules}
use Rattle.std.specs.Int.{w128}
use Rattle.std.proofs.lemmas.Int.{ints}
use Rattle.exact_lp.proofs.MachineNumbers.{read, four_small}
use Rattle.exact_lp.proofs.MinorRows.{normal_is}
use Rattle.exact_lp.proofs.normals.minors_of.Goals as goal

pub returns-clause-small : goal.returns-clause-small
returns-clause-small c =
    four_small (to_z w128 (of_z w128 c.volume.result)) (to_z w128 (of_z w128 c.volume-2.result)) (to_z w128 (of_z w128 c.volume-3.result)) (to_z w128 (of_z w128 c.volume-4.result)) (2 ^ 60 + 1)
    (omega (arith, ints, c.volume.ensures.small)) (omega (arith, ints, c.volume-2.ensures.small)) (omega (arith, ints, c.volume-3.ensures.small)) (omega (arith, ints, c.volume-4.ensures.small))

pub invariant_of-result : goal.invariant_of-result
invariant_of-result c = record {
  small = four_small (to_z w128 (of_z w128 c.volume.result)) (to_z w128 (of_z w128 c.volume-2.result)) (to_z w128 (of_z w128 c.volume-3.result)) (to_z w128 (of_z w128 c.volume-4.result)) (2 ^ 101 + 1)
      (omega (arith, ints, c.volume.ensures.small)) (omega (arith, ints, c.volume-2.ensures.small)) (omega (arith, ints, c.volume-3.ensures.small)) (omega (arith, ints, c.volume-4.ensures.small));
}

pub returns-clause-normal : goal.returns-clause-normal
returns-clause-normal c =
    let f1 : FitsSigned w128 c.volume.result = search rules in
    let f2 : FitsSigned w128 c.volume-2.result = search rules in
    let f3 : FitsSigned w128 c.volume-3.result = search rules in
    let f4 : FitsSigned w128 c.volume-4.result = search rules in
    rw (read c.volume.result f1, read c.volume-2.result f2, read c.volume-3.result f3, read c.volume-4.result f4, c.volume.ensures.value, c.volume-2.ensures.value, c.volume-3.ensures.value, c.volume-4.ensures.value)
    (normal_is c.args.b.now.x c.args.c.now.x c.args.d.now.x)
