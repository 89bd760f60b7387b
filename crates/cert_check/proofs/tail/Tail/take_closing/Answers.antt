use Rattle.std.proofs.Common.{◌≡◌, ◌∙◌, refl, sym}
use Rattle.std.specs.Prelude.{◌==◌, true}
use Rattle.cert_check.proofs.LineSteps.{ends, is_other, keeps_end}
use Rattle.cert_check.proofs.tail.Tail.take_closing.Goals as goal

pub returns-then-byte-ne10 : goal.returns-then-byte-ne10
returns-then-byte-ne10 c =
    let at = rw (← c.self.view_is) at c.requires in
    rw (← c.self.view_is, at, c.keep.ensures) (λ bytes. keeps_end c.self.inside.head c.self.inside.line c.args.byte bytes c.if-byte-ne10.true)

pub returns-then-eq : goal.returns-then-eq
returns-then-eq c =
    let at = rw (← c.self.view_is) at c.requires in
    let eq = rw (c.bytes.ensures, c.as_slice.ensures) at c.eq.ensures in
    let same = sym eq ∙ c.if-eq.true in
    let newline : (c.args.byte == 10) ≡ true = rw c.if-byte-ne10.false refl in
    rw (← c.self.view_is, at) (λ bytes. ends c.self.inside.head c.self.inside.line c.args.byte bytes newline same)

pub returns-else-eq : goal.returns-else-eq
returns-else-eq c =
    let at = rw (← c.self.view_is) at c.requires in
    let eq = rw (c.bytes.ensures, c.as_slice.ensures) at c.eq.ensures in
    let same = sym eq ∙ c.if-eq.false in
    let newline : (c.args.byte == 10) ≡ true = rw c.if-byte-ne10.false refl in
    rw (← c.self.view_is, at, c.lines_of.ensures.value) ((λ bytes. is_other c.self.inside.head c.self.inside.line c.args.byte bytes newline same), refl)
