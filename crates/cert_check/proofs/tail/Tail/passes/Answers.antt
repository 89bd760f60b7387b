use Rattle.std.proofs.Common.{arith}
use Rattle.log_laws.proofs.Exports.{back}
use Rattle.cert_check.proofs.tail.Tail.passes.Goals as goal

pub returns-clause-value : goal.returns-clause-value
returns-clause-value c =
    let low = back c.self.inside.head.low (omega (arith, c.self.invariant.1.head.low)) in
    rw (← c.self.view_is, ← c.self.invariant.0) (rw low at c.leaf_passes.ensures.value)
