use Rattle.std.proofs.Common.{refl}
use Rattle.cert_lines.specs.Places.{place_at}
use Rattle.cert_check.proofs.checker.Checker.new.Goals as goal

pub invariant_of-result : goal.invariant_of-result
unfolding place_at
invariant_of-result c = rw c.new.ensures refl
