use Rattle.cert_check.proofs.Running.{SoFar}
use Rattle.cert_check.proofs.checker.Checker.take_all.Given as goal

abbrev pub invariant-loop-byte : goal.invariant-loop-byte
invariant-loop-byte l = SoFar l.fn.self l.self l.bytes l.byte-index
