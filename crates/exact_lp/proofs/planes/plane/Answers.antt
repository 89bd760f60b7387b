use Rattle.std.proofs.Common.{◌^◌, to_z, of_z, FitsSigned, refl, arith, rules}
use Rattle.std.specs.Int.{w128}
use Rattle.std.proofs.lemmas.Int.{ints}
use Rattle.exact_lp.proofs.MachineNumbers.{read, four_small}
use Rattle.exact_lp.proofs.planes.plane.Goals as goal

pub invariant_of-result : goal.invariant_of-result
invariant_of-result c = record {
  small = four_small (to_z w128 (of_z w128 c.entry.result)) (to_z w128 (of_z w128 c.entry-2.result)) (to_z w128 (of_z w128 c.entry-3.result)) (to_z w128 (of_z w128 c.entry-4.result)) (2 ^ 80)
      (omega (arith, ints, c.entry.ensures.small)) (omega (arith, ints, c.entry-2.ensures.small)) (omega (arith, ints, c.entry-3.ensures.small)) (omega (arith, ints, c.entry-4.ensures.small));
}

pub returns : goal.returns
returns c =
    let f1 : FitsSigned w128 c.entry.result = search rules in
    let f2 : FitsSigned w128 c.entry-2.result = search rules in
    let f3 : FitsSigned w128 c.entry-3.result = search rules in
    let f4 : FitsSigned w128 c.entry-4.result = search rules in
    rw (read c.entry.result f1, read c.entry-2.result f2, read c.entry-3.result f3, read c.entry-4.result f4, c.entry.ensures.value, c.entry-2.ensures.value, c.entry-3.ensures.value, c.entry-4.ensures.value) refl
