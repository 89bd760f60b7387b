use Rattle.std.proofs.Common.{◌∙◌, refl, sym, ap, arith}
use Rattle.case_types.specs.Grid.Cells.{region_of}
use Rattle.cert_letters.specs.Readings.{answer_of}
use Rattle.cert_letters.specs.Steps.{mark_of}
use Rattle.cert_check.specs.Checking.{place_in}
use Rattle.cert_check.proofs.LetterSteps.{closes, goes_on, inner_at, leaf_at, leaf_fails, bad, left_stays}
use Rattle.cert_check.proofs.tail.Tail.take_letter.Goals as goal

pub returns-then-byte-eq10 : goal.returns-then-byte-eq10
returns-then-byte-eq10 c =
    let at = rw (← c.self.view_is) at c.requires in
    let empty = c.self.invariant.1.line at in
    rw (← c.self.view_is, at, empty)
    (λ bytes. closes c.self.inside.head c.self.inside.tree (place_in c.self.inside.head c.self.inside.tree) c.args.byte bytes (sym c.is_whole.ensures ∙ c.if-is_whole.true) c.if-byte-eq10.true)

pub invariant_of-self-in-Inner : goal.invariant_of-self-in-Inner
invariant_of-self-in-Inner c =
    let fewer = left_stays c.self.inside.tree c.args.byte in
    let stays = rw (← c.step.ensures.next) at fewer in
    (c.self.invariant.0, record { head = c.self.invariant.1.head; left = omega (arith, stays, c.self.invariant.1.left); line = c.self.invariant.1.line }, c.self.invariant.2)

pub invariant_of-self-in-Leaf : goal.invariant_of-self-in-Leaf
invariant_of-self-in-Leaf c =
    let fewer = left_stays c.self.inside.tree c.args.byte in
    let stays = rw (← c.step.ensures.next) at fewer in
    (c.self.invariant.0, record { head = c.self.invariant.1.head; left = omega (arith, stays, c.self.invariant.1.left); line = c.self.invariant.1.line }, c.self.invariant.2)

pub invariant_of-self-in-Bad : goal.invariant_of-self-in-Bad
invariant_of-self-in-Bad c =
    let fewer = left_stays c.self.inside.tree c.args.byte in
    let stays = rw (← c.step.ensures.next) at fewer in
    (c.self.invariant.0, record { head = c.self.invariant.1.head; left = omega (arith, stays, c.self.invariant.1.left); line = c.self.invariant.1.line }, c.self.invariant.2)

pub returns-in-Inner : goal.returns-in-Inner
returns-in-Inner c =
    let at = rw (← c.self.view_is) at c.requires in
    let further = goes_on c.self.inside.tree c.args.byte c.is_whole.result c.is_whole.ensures c.else-is_whole.either in
    let told = sym c.step.ensures.answer ∙ ap answer_of c.in-Inner.is in
    rw (← c.self.view_is, at, c.step.ensures.next)
    (λ bytes. inner_at c.self.inside.head c.self.inside.tree c.args.byte bytes c.self.invariant.1.left further told)

pub returns-then-passes : goal.returns-then-passes
returns-then-passes c =
    let at = rw (← c.self.view_is) at c.requires in
    let further = goes_on c.self.inside.tree c.args.byte c.is_whole.result c.is_whole.ensures c.else-is_whole.either in
    let told = sym c.step.ensures.answer ∙ ap answer_of c.in-Leaf.is in
    let passes = sym c.passes.ensures.value ∙ c.if-passes.true in
    rw (← c.self.view_is, c.passes.ensures.same, at, c.step.ensures.next)
    (λ bytes. leaf_at c.self.inside.head c.self.inside.tree c.args.byte bytes (region_of c.in-Leaf.cell) (mark_of c.in-Leaf.how) c.in-Leaf.index c.in-Leaf.last c.self.invariant.1.left further told passes)

pub returns-else-passes : goal.returns-else-passes
returns-else-passes c =
    let at = rw (← c.self.view_is) at c.requires in
    let further = goes_on c.self.inside.tree c.args.byte c.is_whole.result c.is_whole.ensures c.else-is_whole.either in
    let told = sym c.step.ensures.answer ∙ ap answer_of c.in-Leaf.is in
    let passes = sym c.passes.ensures.value ∙ c.if-passes.false in
    rw (← c.self.view_is, at)
    ((λ bytes. leaf_fails c.self.inside.head c.self.inside.tree (place_in c.self.inside.head c.self.inside.tree) c.args.byte bytes (region_of c.in-Leaf.cell) (mark_of c.in-Leaf.how) c.in-Leaf.index c.in-Leaf.last further told passes), refl)

pub returns-in-Bad : goal.returns-in-Bad
returns-in-Bad c =
    let at = rw (← c.self.view_is) at c.requires in
    let further = goes_on c.self.inside.tree c.args.byte c.is_whole.result c.is_whole.ensures c.else-is_whole.either in
    let told = sym c.step.ensures.answer ∙ ap answer_of c.in-Bad.is in
    let place = rw (← c.self.view_is) at c.place-place.ensures in
    rw (← c.self.view_is, at, place)
    ((λ bytes. bad c.self.inside.head c.self.inside.tree (place_in c.self.inside.head c.self.inside.tree) c.args.byte bytes further told), refl)
