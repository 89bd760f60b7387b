use Rattle.std.proofs.Common.{arith}
use Rattle.log_laws.proofs.Exports.{back}
use Rattle.cert_check.proofs.testing.is_gap.Goals as goal

pub returns : goal.returns
returns c =
    rw (back c.args.head.now.gap (omega (arith, c.requires.gap)), back c.gap_of.result (omega (arith, c.gap_of.ensures.small)), c.gap_of.ensures.value) at c.is_same.ensures
