use Rattle.std.proofs.Common.{◌<◌, ◌^◌, unsigned_abs, arith}
use Rattle.log_laws.proofs.Exports.{back}
use Rattle.fix_interval.proofs.quotients.div_shift.Goals as goal

pub returns-clause-holds : goal.returns-clause-holds
returns-clause-holds c f g s t r e h k =
    let call = c.div_ends-lo in
    let lo_small : unsigned_abs call.result.0 < 2 ^ 62 = rw call.ensures.lo c.requires.lo_fits in
    let hi_small : unsigned_abs call.result.1 < 2 ^ 62 = rw call.ensures.hi c.requires.hi_fits in
    rw (back call.result.0 (omega (arith, lo_small)), back call.result.1 (omega (arith, hi_small)))
    (call.ensures.holds f g s t r e h k)
