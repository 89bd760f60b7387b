-- A byte, from the state of the checker.
use Rattle.std.proofs.Common.{◌≡◌, ℕ, ◌+◌, ◌-◌, List, [], ◌∷◌, length, refl, sym, subst, ◌∙◌, arith, Bool, true, false, if◌then◌else◌, Option, Some, None}
use Rattle.std.specs.Prelude.{◌==◌, IsSome}
use Rattle.cert_letters.specs.Lines.{line_end}
use Rattle.cert_letters.specs.Readings.{fresh}
use Rattle.cert_lines.specs.Heads.{Draft, with_line, next_place, fault_of}
use Rattle.cert_lines.specs.HeadTexts.{HeadEnd}
use Rattle.cert_lines.specs.declared.faults.CertFault.{CertFault}
use Rattle.cert_lines.specs.declared.faults.CertFault.TheVariants.{Head as NoHead, Line}
use Rattle.cert_lines.specs.declared.places.Place.{Place}
use Rattle.cert_format.specs.declared.heads.Head.{Head}
use Rattle.cert_format.specs.declared.verdicts.Verdict.{Verdict}
use Rattle.cert_format.specs.declared.verdicts.Verdict.TheVariants.{Refused}
use Rattle.cert_format.specs.Reading.{IsHeadOf}
use Rattle.cert_check.specs.declared.broken.Broken.{Broken}
use Rattle.cert_check.specs.Tests.{first_broken, passes}
use Rattle.cert_check.specs.Judging.{IsVerdictAfter, verdict_of, verdict_after, verdict_behind_head, verdict_behind_letters}
use Rattle.cert_check.specs.Streams.{past_limit}
use Rattle.cert_check.specs.Checking.{TailState, TailTakes, InHead, Behind, Takes, before_letters, longer}
use Rattle.cert_check.proofs.HeadSteps.{keeps_line, wrong, more, whole}

-- ---- behind the head
pub tail_takes : (s after : TailState) (b : ℕ) (o : Option Verdict) → TailTakes s b after o → Takes (Behind s) (b ∷ []) (Behind after) o
tail_takes s after b None h = λ bytes v g. g ∙ sym (h bytes)
tail_takes s after b (Some u) h = ((λ bytes. sym (h.0 bytes)), h.1)

-- ---- in the head
pub keeps : (d : Draft) (line : List ℕ) (b : ℕ) → (b ≡ 10 → ⊥) → Takes (InHead d line) (b ∷ []) (InHead d (longer line b)) None
keeps d line b other = λ bytes v g. subst (λ (x : HeadEnd). IsVerdictAfter x v) (sym (keeps_line d line b bytes other)) g

-- there is one
some_place : (o : Option Place) → IsSome o → (p : Place) × (o ≡ Some p)
some_place None h = absurd cc
some_place (Some p) h = (p, refl)

pub next_line : (d after : Draft) (line : List ℕ) (b : ℕ) → (b == 10) ≡ true → with_line d line ≡ Some after → IsSome (next_place after) → Takes (InHead d line) (b ∷ []) (InHead after []) None
next_line d after line b newline w n =
    let p = some_place (next_place after) n in
    λ bytes v g. subst (λ (x : HeadEnd). IsVerdictAfter x v) (sym (more d after p.0 line b bytes newline w p.1)) g

line_fault : (d : Draft) → past_limit (Refused (fault_of d)) ≡ Refused (fault_of d)
line_fault d = by_first (length d.said == 0)
  where
    by_first : (t : Bool) → past_limit (Refused (if t then NoHead else Line (length d.said + 1))) ≡ Refused (if t then NoHead else Line (length d.said + 1))
    by_first true = refl
    by_first false = refl

pub refused : (d : Draft) (line : List ℕ) (b : ℕ) (f : CertFault) (after : Draft) (rest : List ℕ) → (b == 10) ≡ true → with_line d line ≡ None → f ≡ fault_of d
    → Takes (InHead d line) (b ∷ []) (InHead after rest) (Some (Refused f))
refused d line b f after rest newline w is =
    rw is ((λ bytes. subst (λ (x : HeadEnd). IsVerdictAfter x (Refused (fault_of d))) (sym (wrong d line b bytes newline w)) refl), line_fault d)

tested : (h : Head) (o : Option Broken) (bytes : List ℕ) → first_broken h ≡ o → verdict_behind_head h bytes ≡ verdict_after h o bytes
unfolding verdict_behind_head
tested h o bytes e = rw e refl

pub broken_head : (d after : Draft) (line : List ℕ) (b : ℕ) (h : Head) (x : Broken) (v : Verdict) (next : Draft) (rest : List ℕ) → (b == 10) ≡ true → with_line d line ≡ Some after → next_place after ≡ None
    → IsHeadOf after h → first_broken h ≡ Some x → v ≡ verdict_of x → past_limit v ≡ v → Takes (InHead d line) (b ∷ []) (InHead next rest) (Some v)
broken_head d after line b h x v next rest newline w n of breaks is settled =
    ((λ bytes. subst (λ (y : HeadEnd). IsVerdictAfter y v) (sym (whole d after line b bytes newline w n)) (h, of, is ∙ sym (tested h (Some x) bytes breaks))), settled)

first_place : (h : Head) (bytes : List ℕ)
    → verdict_behind_letters h (line_end (passes h) (fresh h.params.case.n h.letters) (h.letters - h.letters + 1) bytes)
    ≡ verdict_behind_letters h (line_end (passes h) (fresh h.params.case.n h.letters) 1 bytes)
first_place h bytes =
    let one : h.letters - h.letters + 1 ≡ 1 = omega arith in
    rw one refl

pub whole_head : (d after : Draft) (line : List ℕ) (b : ℕ) (h : Head) → (b == 10) ≡ true → with_line d line ≡ Some after → next_place after ≡ None
    → IsHeadOf after h → first_broken h ≡ None → Takes (InHead d line) (b ∷ []) (Behind (before_letters h)) None
whole_head d after line b h newline w n of holds =
    λ bytes v g. subst (λ (y : HeadEnd). IsVerdictAfter y v) (sym (whole d after line b bytes newline w n)) (h, of, g ∙ first_place h bytes ∙ sym (tested h None bytes holds))
