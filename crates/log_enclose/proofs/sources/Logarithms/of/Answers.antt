use Rattle.std.proofs.Common.{◌≡◌, ◌≤◌, unsigned_abs, arith}
use Rattle.std.proofs.lemmas.Int.{ints}
use Rattle.log_laws.specs.Squaring.{log_down, log_up}
use Rattle.log_laws.proofs.Exports.{back}
use Rattle.log_enclose.proofs.Bounds.{log_down_holds, log_up_holds, log_ordered, small_fits}
use Rattle.log_enclose.proofs.sources.Logarithms.of.Goals as goal

pub invariant_of-result : goal.invariant_of-result
invariant_of-result c =
    let a = c.args.a in
    let lo_back = back a.lo (omega (arith, a.lo_small)) in
    let hi_back = back a.hi (omega (arith, a.hi_small)) in
    let lo_small = small_fits c.ends-lo.result.0 c.ends-lo.ensures.low_small in
    let hi_small = small_fits c.ends-lo.result.1 c.ends-lo.ensures.high_small in
    let lo_is : c.ends-lo.result.0 ≡ log_down (unsigned_abs a.lo) c.args.scale = rw lo_back at c.ends-lo.ensures.low in
    let hi_is : c.ends-lo.result.1 ≡ log_up (unsigned_abs a.hi) c.args.scale = rw hi_back at c.ends-lo.ensures.high in
    let some : 1 ≤ unsigned_abs a.lo = omega (arith, ints, c.requires.positive) in
    let order : unsigned_abs a.lo ≤ unsigned_abs a.hi = omega (arith, ints, c.requires.positive, a.ordered) in
    let lo_read = back c.ends-lo.result.0 (omega (arith, lo_small)) in
    let hi_read = back c.ends-lo.result.1 (omega (arith, hi_small)) in
    record {
      ordered =
          rw (lo_read, hi_read, lo_is, hi_is)
          (log_ordered (unsigned_abs a.lo) (unsigned_abs a.hi) c.args.scale some order a.hi_small);
      lo_small = rw lo_read lo_small;
      hi_small = rw hi_read hi_small;
    }

pub returns-clause-at_least : goal.returns-clause-at_least
returns-clause-at_least c n above below =
    let a = c.args.a in
    let lo_is : c.ends-lo.result.0 ≡ log_down (unsigned_abs a.lo) c.args.scale = rw (back a.lo (omega (arith, a.lo_small))) at c.ends-lo.ensures.low in
    rw (back c.ends-lo.result.0 (omega (arith, small_fits c.ends-lo.result.0 c.ends-lo.ensures.low_small)), lo_is)
    (log_down_holds (unsigned_abs a.lo) n c.args.scale (omega (arith, ints, c.requires.positive)) (omega (arith, ints, c.requires.positive, above))
    (omega (arith, ints, c.requires.positive, below, a.ordered, a.hi_small)))

pub returns-clause-at_most : goal.returns-clause-at_most
returns-clause-at_most c n above below =
    let a = c.args.a in
    let hi_is : c.ends-lo.result.1 ≡ log_up (unsigned_abs a.hi) c.args.scale = rw (back a.hi (omega (arith, a.hi_small))) at c.ends-lo.ensures.high in
    rw (back c.ends-lo.result.1 (omega (arith, small_fits c.ends-lo.result.1 c.ends-lo.ensures.high_small)), hi_is)
    (log_up_holds n (unsigned_abs a.hi) c.args.scale (omega (arith, ints, c.requires.positive, above)) (omega (arith, ints, c.requires.positive, below, a.ordered)) a.hi_small)
