-- No text has the verdict of a stream that fails or is too long, or of want of memory.
use Rattle.std.proofs.Common.{◌≡◌, ℕ, ◌+◌, List, [], ◌∷◌, ◌++◌, length, refl, subst, ◌∙◌, ap, Bool, true, false, if◌then◌else◌, Option, Some, None}
use Rattle.std.specs.Prelude.{◌==◌, codes}
use Rattle.std.specs.Str.{bytes_eq}
use Rattle.cert_letters.specs.Lines.{LineEnd, CutAt, BadAt, FailsAt, Behind, line_end}
use Rattle.cert_letters.specs.Readings.{fresh}
use Rattle.cert_lines.specs.declared.faults.CertFault.{CertFault}
use Rattle.cert_lines.specs.declared.faults.CertFault.TheVariants.{Head as NoHead, Line, TooLong}
use Rattle.cert_lines.specs.declared.places.Place.{Place}
use Rattle.cert_lines.specs.Heads.{Draft, blank, with_line, next_place, fault_of}
use Rattle.cert_lines.specs.HeadTexts.{HeadEnd, CutOff, Wrong, Whole, head_end, after_line, after_next}
use Rattle.cert_format.specs.declared.heads.Head.{Head}
use Rattle.cert_format.specs.declared.verdicts.Verdict.{Verdict}
use Rattle.cert_format.specs.declared.verdicts.Verdict.TheVariants.{Accepted, BadParams, BadBalance, BadEnergy, BadGap, BadLeaf, Refused, ReadFault, Memory}
use Rattle.cert_format.specs.Heads.{said_of}
use Rattle.cert_check.specs.declared.broken.Broken.{Broken}
use Rattle.cert_check.specs.declared.broken.Broken.TheVariants as broken
use Rattle.cert_check.specs.Streams.{past_limit, IsOnText}
use Rattle.cert_check.specs.Tests.{first_broken, passes}
use Rattle.cert_check.specs.Judging.{verdict_of, verdict_behind_end, verdict_at_end, verdict_behind_letters, verdict_after, verdict_behind_head, IsVerdictAfter, IsVerdict}

abbrev is_of_text : CertFault → Bool
is_of_text TooLong = false
is_of_text other = true

-- a text can have it
abbrev pub can_be : Verdict → Bool
can_be (Refused f) = is_of_text f
can_be ReadFault = false
can_be Memory = false
can_be other = true

behind_end : (h : Head) (bytes : List ℕ) → can_be (verdict_behind_end h bytes) ≡ true
unfolding verdict_behind_end
behind_end h [] = refl
behind_end h (b ∷ bytes) = refl

at_end : (h : Head) (line bytes : List ℕ) → can_be (verdict_at_end h line bytes) ≡ true
unfolding verdict_at_end
at_end h line [] = refl
at_end h line (b ∷ bytes) = by_byte (b == 10) (bytes_eq line (codes "end")) (at_end h (line ++ b ∷ []) bytes)
  where
    by_byte : (t u : Bool) → can_be (verdict_at_end h (line ++ b ∷ []) bytes) ≡ true
        → can_be (if t then (if u then verdict_behind_end h bytes else Refused (Line (length (said_of h) + 2))) else verdict_at_end h (line ++ b ∷ []) bytes) ≡ true
    by_byte true true again = behind_end h bytes
    by_byte true false again = refl
    by_byte false u again = again

behind_letters : (h : Head) (x : LineEnd) → can_be (verdict_behind_letters h x) ≡ true
behind_letters h CutAt = refl
behind_letters h (BadAt place) = refl
behind_letters h (FailsAt leaf) = refl
behind_letters h (Behind bytes) = at_end h [] bytes

by_broken : (b : Broken) → can_be (verdict_of b) ≡ true
by_broken broken.Params = refl
by_broken (broken.Balance i) = refl
by_broken broken.Energy = refl
by_broken broken.Gap = refl

by_test : (h : Head) (o : Option Broken) (bytes : List ℕ) → can_be (verdict_after h o bytes) ≡ true
by_test h (Some b) bytes = by_broken b
by_test h None bytes = behind_letters h (line_end (passes h) (fresh h.params.case.n h.letters) 1 bytes)

behind_head : (h : Head) (bytes : List ℕ) → can_be (verdict_behind_head h bytes) ≡ true
unfolding verdict_behind_head
behind_head h bytes = by_test h (first_broken h) bytes

line_fault : (d : Draft) → is_of_text (fault_of d) ≡ true
line_fault d = by_first (length d.said == 0)
  where
    by_first : (t : Bool) → is_of_text (if t then NoHead else Line (length d.said + 1)) ≡ true
    by_first true = refl
    by_first false = refl

wrong_is : (f g : CertFault) → Wrong f ≡ Wrong g → f ≡ g
wrong_is f g e = cc

in_head : (f : CertFault) (d : Draft) (line bytes : List ℕ) → head_end d line bytes ≡ Wrong f → is_of_text f ≡ true
unfolding head_end
in_head f d line [] e = absurd cc
in_head f d line (b ∷ bytes) e = by_byte (λ x l g. in_head f x l bytes g) (b == 10) (with_line d line) e
  where
    by_next : ((x : Draft) (l : List ℕ) → head_end x l bytes ≡ Wrong f → is_of_text f ≡ true) → (x : Draft) (o : Option Place) → after_next x o (head_end x [] bytes) bytes ≡ Wrong f → is_of_text f ≡ true
    by_next again x (Some p) e = again x [] e
    by_next again x None e = absurd cc

    by_byte : ((x : Draft) (l : List ℕ) → head_end x l bytes ≡ Wrong f → is_of_text f ≡ true) → (t : Bool) (o : Option Draft)
        → (if t then after_line d o (λ x. head_end x [] bytes) bytes else head_end d (line ++ b ∷ []) bytes) ≡ Wrong f → is_of_text f ≡ true
    by_byte again true None e = subst (λ (g : CertFault). is_of_text g ≡ true) (wrong_is (fault_of d) f e) (line_fault d)
    by_byte again true (Some x) e = by_next again x (next_place x) e
    by_byte again false o e = again d (line ++ b ∷ []) e

by_end : (text : List ℕ) (v : Verdict) (x : HeadEnd) → head_end blank [] text ≡ x → IsVerdictAfter x v → can_be v ≡ true
by_end text v CutOff k is = ap can_be is
by_end text v (Wrong f) k is = ap can_be is ∙ in_head f blank [] text k
by_end text v (Whole d bytes) k is = ap can_be is.2 ∙ behind_head is.0 bytes

pub of_text : (text : List ℕ) (v : Verdict) → IsVerdict text v → can_be v ≡ true
of_text text v is = by_end text v (head_end blank [] text) refl is

too_long_is_no : can_be (Refused TooLong) ≡ true → ⊥
too_long_is_no e = cc

pub not_too_long : (text : List ℕ) (v : Verdict) → IsVerdict text v → v ≡ Refused TooLong → ⊥
not_too_long text v is e = too_long_is_no (subst (λ (x : Verdict). can_be x ≡ true) e (of_text text v is))

read_fault_is_no : can_be ReadFault ≡ true → ⊥
read_fault_is_no e = cc

pub not_read_fault : (text : List ℕ) (v : Verdict) → IsVerdict text v → v ≡ ReadFault → ⊥
not_read_fault text v is e = read_fault_is_no (subst (λ (x : Verdict). can_be x ≡ true) e (of_text text v is))

-- past the limit a verdict doesn't turn to a read fault
past_is : (v : Verdict) → can_be v ≡ true → past_limit v ≡ ReadFault → ⊥
past_is (Accepted u gap) is e = cc
past_is BadParams is e = cc
past_is (BadBalance i) is e = cc
past_is BadEnergy is e = cc
past_is BadGap is e = cc
past_is (BadLeaf i) is e = cc
past_is (Refused f) is e = cc
past_is ReadFault is e = cc
past_is Memory is e = cc

pub past_no_read_fault : (text : List ℕ) (v : Verdict) → IsVerdict text v → past_limit v ≡ ReadFault → ⊥
past_no_read_fault text v is e = past_is v (of_text text v is) e

-- a verdict on a text tells of no fault of the source and no want of memory, and neither does what it turns to past the limit
is_on_text : (v : Verdict) → can_be v ≡ true → IsOnText v × IsOnText (past_limit v)
is_on_text (Accepted u gap) e = (tt, tt)
is_on_text BadParams e = (tt, tt)
is_on_text (BadBalance i) e = (tt, tt)
is_on_text BadEnergy e = (tt, tt)
is_on_text BadGap e = (tt, tt)
is_on_text (BadLeaf i) e = (tt, tt)
is_on_text (Refused f) e = (tt, tt)
is_on_text ReadFault e = absurd cc
is_on_text Memory e = absurd cc

pub on_text : (text : List ℕ) (v : Verdict) → IsVerdict text v → IsOnText v
on_text text v is = (is_on_text v (of_text text v is)).0

pub past_on_text : (text : List ℕ) (v : Verdict) → IsVerdict text v → IsOnText (past_limit v)
past_on_text text v is = (is_on_text v (of_text text v is)).1
