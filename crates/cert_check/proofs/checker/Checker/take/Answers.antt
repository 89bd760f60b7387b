use Rattle.std.proofs.Common.{◌≡◌, [], refl}
use Rattle.std.specs.Prelude.{◌==◌, true}
use Rattle.cert_lines.specs.Heads.{blank}
use Rattle.cert_lines.specs.Places.{place_at}
use Rattle.cert_check.proofs.CheckerSteps.{keeps, next_line, refused, broken_head, whole_head}
use Rattle.cert_check.proofs.checker.Checker.take.Goals as goal

pub returns-then-byte-ne10 : goal.returns-then-byte-ne10
returns-then-byte-ne10 c =
    rw (← c.self.view_is, c.in_default.is, c.keep.ensures) (keeps c.self.inside.reader c.self.inside.line c.args.byte c.if-byte-ne10.true)

-- the reader is a new one
pub invariant_of-self-in-Err : goal.invariant_of-self-in-Err
unfolding place_at
invariant_of-self-in-Err c = rw (c.in_default.is, c.new-self-inside.ensures) refl

pub returns-in-More : goal.returns-in-More
returns-in-More c =
    let newline : (c.args.byte == 10) ≡ true = rw c.if-byte-ne10.false refl in
    let step = rw c.bytes.ensures at c.in-More.ensures in
    rw (← c.self.view_is, c.in_default.is, c.clear.ensures) (next_line c.self.inside.reader c.line.new.self c.self.inside.line c.args.byte newline step.0 step.1)

pub returns-in-Ok : goal.returns-in-Ok
returns-in-Ok c =
    let newline : (c.args.byte == 10) ≡ true = rw c.if-byte-ne10.false refl in
    let step = rw c.bytes.ensures at c.in-Done.ensures in
    rw (← c.self.view_is, c.in_default.is, c.in-Ok.ensures.ok)
    (whole_head c.self.inside.reader c.line.new.self c.self.inside.line c.args.byte c.in-Done.head newline step.0 step.1 step.2 c.in-Ok.ensures.whole)

pub returns-in-Err : goal.returns-in-Err
returns-in-Err c =
    let newline : (c.args.byte == 10) ≡ true = rw c.if-byte-ne10.false refl in
    let step = rw c.bytes.ensures at c.in-Done.ensures in
    rw (← c.self.view_is, c.in_default.is)
    (broken_head c.self.inside.reader c.line.new.self c.self.inside.line c.args.byte c.in-Done.head c.in-Err.broken c.verdict_of.result blank [] newline step.0 step.1 step.2
    c.in-Err.ensures.broken c.verdict_of.ensures.verdict c.verdict_of.ensures.settled)

pub returns-in-Bad : goal.returns-in-Bad
returns-in-Bad c =
    let newline : (c.args.byte == 10) ≡ true = rw c.if-byte-ne10.false refl in
    let step = rw c.bytes.ensures at c.in-Bad.ensures in
    rw (← c.self.view_is, c.in_default.is) (refused c.self.inside.reader c.self.inside.line c.args.byte c.in-Bad.fault blank [] newline step.0 step.1)
