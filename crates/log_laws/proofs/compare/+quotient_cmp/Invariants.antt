use Rattle.std.proofs.Common.{◌+◌}
use Rattle.log_laws.proofs.compare.+quotient_cmp.Given as goal

abbrev pub decreases-quotient_cmp : goal.decreases-quotient_cmp
decreases-quotient_cmp l = l.d + l.e
