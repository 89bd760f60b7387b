use Rattle.cert_check.proofs.Running.{whole_text}
use Rattle.cert_check.proofs.streams.verdict_of.Goals as goal

pub returns-in-Some : goal.returns-in-Some
returns-in-Some c = whole_text c.new-checker.result c.take_all.new.self c.args.text.now c.in-Some.verdict c.new-checker.ensures c.in-Some.ensures
