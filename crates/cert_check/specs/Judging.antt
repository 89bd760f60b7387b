-- The verdict on a text, from its first byte.
use Rattle.std.specs.Prelude.{ℕ, ◌+◌, ◌==◌, ◌≡◌, List, [], ◌∷◌, ◌++◌, length, codes, if◌then◌else◌, Option, Some, None}
use Rattle.std.specs.Str.{bytes_eq}
use Rattle.cert_letters.specs.Lines.{LineEnd, CutAt, BadAt, FailsAt, Behind, line_end}
use Rattle.cert_letters.specs.Readings.{fresh}
use Rattle.cert_lines.specs.declared.faults.CertFault.TheVariants.{Line, Tree, Cut, Extra}
use Rattle.cert_lines.specs.Heads.{blank}
use Rattle.cert_lines.specs.HeadTexts.{HeadEnd, CutOff, Wrong, Whole, head_end}
use Rattle.cert_format.specs.declared.heads.Head.{Head}
use Rattle.cert_format.specs.declared.verdicts.Verdict.{Verdict}
use Rattle.cert_format.specs.declared.verdicts.Verdict.TheVariants.{Accepted, BadParams, BadBalance, BadEnergy, BadGap, BadLeaf, Refused}
use Rattle.cert_format.specs.Heads.{said_of}
use Rattle.cert_format.specs.Reading.{IsHeadOf}
use Rattle.cert_check.specs.declared.broken.Broken.{Broken}
use Rattle.cert_check.specs.declared.broken.Broken.TheVariants as broken
use Rattle.cert_check.specs.Tests.{first_broken, passes}

abbrev pub verdict_of : Broken → Verdict
verdict_of broken.Params = BadParams
verdict_of (broken.Balance i) = BadBalance i
verdict_of broken.Energy = BadEnergy
verdict_of broken.Gap = BadGap

-- ---- behind the letters
-- behind the line `end` the text ends
unfoldable pub verdict_behind_end : Head → List ℕ → Verdict
verdict_behind_end h [] = Accepted h.u h.gap
verdict_behind_end h (b ∷ bytes) = Refused (Extra 1)

-- the line `end`, of which this much was read: it is judged at its newline
unfoldable pub verdict_at_end : Head → List ℕ → List ℕ → Verdict
verdict_at_end h line [] = Refused Cut
verdict_at_end h line (b ∷ bytes) =
    if b == 10
    then (if bytes_eq line (codes "end") then verdict_behind_end h bytes else Refused (Line (length (said_of h) + 2)))
    else verdict_at_end h (line ++ b ∷ []) bytes

-- ---- behind the head
abbrev pub verdict_behind_letters : Head → LineEnd → Verdict
verdict_behind_letters h CutAt = Refused Cut
verdict_behind_letters h (BadAt place) = Refused (Tree place)
verdict_behind_letters h (FailsAt leaf) = BadLeaf leaf
verdict_behind_letters h (Behind bytes) = verdict_at_end h [] bytes

-- the tests of the head, and then the letters
abbrev pub verdict_after : Head → Option Broken → List ℕ → Verdict
verdict_after h (Some b) bytes = verdict_of b
verdict_after h None bytes = verdict_behind_letters h (line_end (passes h) (fresh h.params.case.n h.letters) 1 bytes)

unfoldable pub verdict_behind_head : Head → List ℕ → Verdict
verdict_behind_head h bytes = verdict_after h (first_broken h) bytes

-- ---- the whole text
-- the verdict where the head ends so
abbrev pub IsVerdictAfter : HeadEnd → Verdict → Type 0
IsVerdictAfter CutOff v = v ≡ Refused Cut
IsVerdictAfter (Wrong f) v = v ≡ Refused f
IsVerdictAfter (Whole d bytes) v = (h : Head) × IsHeadOf d h × (v ≡ verdict_behind_head h bytes)

abbrev pub IsVerdict : List ℕ → Verdict → Type 0
IsVerdict text v = IsVerdictAfter (head_end blank [] text) v
