use Rattle.std.proofs.Common.{inl, subst, List, ℕ}
use Rattle.cert_check.specs.Judging.{IsVerdict}
use Rattle.cert_check.proofs.OfTexts.{not_read_fault}
use Rattle.cert_check.proofs.Running.{judges_text}
use Rattle.cert_check.proofs.streams.check.Goals as goal

pub returns-in-Ok-clause-answers : goal.returns-in-Ok-clause-answers
returns-in-Ok-clause-answers g c =
    let r = c.in-Ok.ensures.ok in
    inl (judges_text _ _ c.in-Ok.text.items _ _ c.verdict_of.result r.short r.taken r.ended
    (subst (λ (text : List ℕ). IsVerdict text c.verdict_of.result) c.deref.ensures.value c.verdict_of.ensures) r.no_fault)

pub returns-in-Ok-clause-last_take : goal.returns-in-Ok-clause-last_take
returns-in-Ok-clause-last_take g c = λ e. absurd (not_read_fault _ c.verdict_of.result c.verdict_of.ensures e)
