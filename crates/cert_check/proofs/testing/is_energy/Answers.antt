use Rattle.std.proofs.Common.{arith}
use Rattle.log_laws.proofs.Exports.{back}
use Rattle.cert_check.proofs.testing.is_energy.Goals as goal

pub returns : goal.returns
returns c =
    rw (back c.args.head.now.u (omega (arith, c.requires.head.u)), back c.split_energy.result (omega (arith, c.split_energy.ensures.small)), c.split_energy.ensures.value, c.requires.same) at c.is_same.ensures
