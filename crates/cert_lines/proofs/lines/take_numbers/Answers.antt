use Rattle.std.proofs.Common.{arith, rules, SFits, sym, lit<, ◌≡◌, [], refl}
use Rattle.std.specs.Int.{w128}
use Rattle.std.proofs.lemmas.Int.{to_z-of_z}
use Rattle.cert_lines.specs.Lines.{numbers_at}
use Rattle.cert_lines.proofs.Numbers.{goes_on, stops, is_done, nothing_yet}
use Rattle.std.proofs.lemmas.List.{length_push}
use Rattle.cert_lines.proofs.lines.take_numbers.Goals as goal

pub loop-range-init : goal.loop-range-init
loop-range-init c =
    let none : c.new-numbers.result.items ≡ [] = c.new-numbers.ensures in
    record {
      read = rw none (nothing_yet (numbers_at c.args.ranges.now c.args.text.now));
      count = rw none refl;
    }

pub returns-in_err-z : goal.returns-in_err-z
returns-in_err-z c =
    rw c.from_residual.ensures
    (stops c.loop-range.numbers.items c.args.ranges.now c.loop-range.range-index _ c.loop-range.rest.now _ c.loop-range-test.true (sym c.in_err-z.ensures) c.loop-range.invariant.read)

pub push-requires : goal.push-requires
push-requires c = (lit< tt, omega (arith, c.loop-range.invariant.count, c.loop-range-test.true, c.requires))

pub loop-range-preserved : goal.loop-range-preserved
loop-range-preserved c =
    let fits : SFits w128 c.in_ok-z.z = search rules in
    let e = simp to_z-of_z at c.push.ensures.items in
    record {
      read = rw e (goes_on c.loop-range.numbers.items c.args.ranges.now c.loop-range.range-index _ c.loop-range.rest.now c.in_ok-z.z c.in_ok-z.after.now _ c.loop-range-test.true (sym c.in_ok-z.ensures) c.loop-range.invariant.read);
      count = rw (e, length_push) (omega (arith, c.loop-range.invariant.count));
    }

pub returns : goal.returns
returns c = is_done c.loop-range.numbers.items c.args.ranges.now c.loop-range.rest.now _ c.loop-range.range-index c.loop-range-test.false c.loop-range.invariant.read
