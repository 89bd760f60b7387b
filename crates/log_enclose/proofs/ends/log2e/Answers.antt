use Rattle.std.proofs.Common.{refl}
use lib.IntN.{pos}
use Rattle.log_laws.specs.Squaring.{down, up}
use Rattle.log_laws.proofs.Exports.{log_of_one_and}
use Rattle.log_enclose.proofs.Constants.{holds_log_e}
use Rattle.log_enclose.proofs.ends.log2e.Goals as goal

pub returns-clause-ends : goal.returns-clause-ends
unfolding down up
returns-clause-ends c = refl

pub returns-clause-right : goal.returns-clause-right
returns-clause-right c = holds_log_e

pub returns-clause-more : goal.returns-clause-more
returns-clause-more c = (log_of_one_and (record { lo = pos 1586259924992; hi = pos 1586260020565 }) holds_log_e).0

pub returns-clause-less : goal.returns-clause-less
returns-clause-less c = (log_of_one_and (record { lo = pos 1586259924992; hi = pos 1586260020565 }) holds_log_e).1
