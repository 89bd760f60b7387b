use Rattle.cert_check.proofs.Running.{so_far_more, so_far_out, so_far_all}
use Rattle.cert_check.proofs.checker.Checker.take_all.Goals as goal

pub loop-byte-init : goal.loop-byte-init
loop-byte-init c = λ rest v g. g

pub returns-in-Some : goal.returns-in-Some
returns-in-Some c =
    so_far_out c.args.self.now c.loop-byte.self c.take.new.self c.in-Some.verdict c.args.bytes.now c.loop-byte.byte-index 0 c.loop-byte-test.true c.in-Some.ensures c.loop-byte.invariant

pub loop-byte-preserved : goal.loop-byte-preserved
loop-byte-preserved c =
    so_far_more c.args.self.now c.loop-byte.self c.take.new.self c.args.bytes.now c.loop-byte.byte-index 0 c.loop-byte-test.true c.in_default.ensures c.loop-byte.invariant

pub returns : goal.returns
returns c = so_far_all c.args.self.now c.loop-byte.self c.args.bytes.now c.loop-byte.byte-index c.loop-byte-test.false c.loop-byte.invariant
