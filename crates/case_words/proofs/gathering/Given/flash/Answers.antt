use Rattle.case_words.specs.Jobs.{asked_at, asked_of}
use Rattle.case_words.specs.Views.{gathered_of, asked_by}
use Rattle.case_words.proofs.Asking.{asked-without_t, asked-without_p, asked-there}
use Rattle.case_words.proofs.Steps.{answers-same}
use Rattle.case_words.proofs.gathering.Given.flash.Goals as goal

pub returns-in_default : goal.returns-in_default
returns-in_default c = asked-without_t (gathered_of c.args.self) c.in_default.is

pub returns-in_default-p : goal.returns-in_default-p
returns-in_default-p c = asked-without_p (gathered_of c.args.self) c.in-Some.t c.in-Some.is c.in_default-p.is

pub returns : goal.returns
returns c =
    answers-same asked_by (asked_of (gathered_of c.args.self)) (asked_at c.in-Some.t c.in-Some-p.p (gathered_of c.args.self)) c.flash_at.result
    (asked-there (gathered_of c.args.self) c.in-Some.t c.in-Some-p.p c.in-Some.is c.in-Some-p.is) c.flash_at.ensures.value
