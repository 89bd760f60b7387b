use Rattle.std.proofs.Common.{arith}
use Rattle.std.proofs.lemmas.Int.{ints}
use Rattle.cubic_roots.specs.Pressures.{middle_ratio}
use Rattle.cubic_roots.proofs.MiddleEnds.{middle_read}
use Rattle.cubic_roots.proofs.middles.middle_of_ratio.Goals as goal

pub returns-clause-value : goal.returns-clause-value
unfolding middle_ratio
returns-clause-value c =
    let low = c.g_lo.ensures in
    let high = c.g_hi.ensures in
    let read = middle_read c.g_lo.result c.g_hi.result 2 c.middle.result low.low (omega (arith, ints, low.high)) high.low (omega (arith, ints, high.high)) c.middle.ensures.value in
    rw (low.value, high.value) at read
