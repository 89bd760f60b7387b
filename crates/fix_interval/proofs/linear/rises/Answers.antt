use Rattle.std.proofs.Common.{◌∙◌, ◌^◌, arith, to_z, sym}
use Rattle.std.specs.Int.{w128}
use Rattle.std.proofs.lemmas.Int.{ints}
use Rattle.log_laws.proofs.Exports.{back, sum-none, sum-next, sum-read, each_of_four_small}
use Rattle.fix_interval.proofs.Steps.{number_of}
use Rattle.fix_interval.proofs.linear.rises.Goals as goal

pub loop-i-init : goal.loop-i-init
loop-i-init c = record { whole = sym (sum-none _); small = omega arith }

pub loop-i-preserved : goal.loop-i-preserved
loop-i-preserved c =
    let r = c.rise-sum.ensures.small in
    let small = c.loop-i.invariant.small in
    let own = each_of_four_small c.args.numbers.now (2 ^ 80) c.loop-i.i c.requires.numbers (omega arith) in
    let t = c.step.ensures.small in
    let step = rw (back (number_of c.args.numbers.now c.loop-i.i) (omega (arith, own))) at c.step.ensures.value in
    let rise = rw (back c.step.result (omega (arith, t)), step) at c.rise-sum.ensures.value in
    let read = sum-read (to_z w128 c.loop-i.sum-bits) c.rise-sum.result (omega (arith, small)) (omega (arith, r)) in
    record {
      whole = read ∙ sum-next c.loop-i.i _ _ c.rise-sum.result c.loop-i.invariant.whole rise;
      small = rw read (omega (arith, ints, small, r));
    }
