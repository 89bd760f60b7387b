use Rattle.std.proofs.Common.{◌≡◌, ◌+◌, sym, ◌∙◌, arith, refl}
use Rattle.cert_check.specs.Tests.{first_unbalanced}
use Rattle.cert_check.proofs.Balances.{unbalanced_at, first_more, first_found, first_zero}
use Rattle.cert_check.proofs.testing.first_unbalanced.Goals as goal

pub loop-i-init : goal.loop-i-init
loop-i-init c = first_zero (unbalanced_at c.args.head.now)

pub returns-then-not-adds_up_at : goal.returns-then-not-adds_up_at
unfolding first_unbalanced
returns-then-not-adds_up_at c =
    let h = c.args.head.now in
    sym (first_found h.params.case.n (unbalanced_at h) c.loop-i.i (c.loop-i.i + 1) c.loop-i-test.true c.loop-i.invariant
    (rw (sym c.adds_up_at.ensures ∙ c.if-not-adds_up_at.true) refl))

pub loop-i-preserved : goal.loop-i-preserved
loop-i-preserved c =
    first_more c.loop-i.i (unbalanced_at c.args.head.now) c.loop-i.invariant (rw (sym c.adds_up_at.ensures ∙ c.if-not-adds_up_at.false) refl)

pub returns : goal.returns
unfolding first_unbalanced
returns c =
    let end : c.loop-i.i ≡ c.args.head.now.params.case.n = omega arith in
    sym (rw end at c.loop-i.invariant)
