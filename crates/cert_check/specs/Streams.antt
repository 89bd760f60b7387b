-- Verdicts over a source of bytes.
use Rattle.std.specs.Prelude.{⊤, ℕ, ◌+◌, ◌≡◌, ◌⊎◌, ◌≤◌, ◌<◌, List, length, take, Option, Some, None, ℤ}
use Rattle.io_edge.specs.Bytes.{IsSpent}
use Rattle.io_edge.specs.Causes.{CountsFault}
use Rattle.io_edge.specs.Reading.{TakesAtMost, TakesExactly}
use Rattle.cert_lines.specs.declared.faults.CertFault.{CertFault}
use Rattle.cert_lines.specs.declared.faults.CertFault.TheVariants as fault
use Rattle.cert_format.specs.declared.verdicts.Verdict.{Verdict}
use Rattle.cert_format.specs.declared.verdicts.Verdict.TheVariants as verdict
use Rattle.cert_check.specs.Judging.{IsVerdict}

-- the most bytes of a certificate
abbrev pub limit : ℕ
limit = 67108864

-- of a line that is cut off by the limit the text is too long; a byte behind a certificate is one too many
abbrev pub fault_past_limit : CertFault → CertFault
fault_past_limit fault.Cut = fault.TooLong
fault_past_limit other = other

abbrev pub past_limit : Verdict → Verdict
past_limit (verdict.Accepted u gap) = verdict.Refused (fault.Extra 1)
past_limit (verdict.Refused f) = verdict.Refused (fault_past_limit f)
past_limit other = other

-- the verdict on a stream of these bytes: that on a whole text up to the limit
pub record IsPastLimit (bytes : List ℕ) (v : Verdict) : Type 0 where
  pub long : limit < length bytes
  pub within : Verdict
  pub is_within : IsVerdict (take limit bytes) within
  pub is : v ≡ past_limit within

abbrev pub IsStreamVerdict : List ℕ → Verdict → Type 0
IsStreamVerdict bytes v = ((length bytes ≤ limit) × IsVerdict bytes v) ⊎ IsPastLimit bytes v

-- the verdict on a text that is read whole first
abbrev pub IsTextVerdict : List ℕ → Verdict → Type 0
IsTextVerdict bytes v = ((length bytes ≤ limit) × IsVerdict bytes v) ⊎ ((limit < length bytes) × (v ≡ verdict.Refused fault.TooLong))

-- a verdict on a text: the source was read, and memory was there
abbrev pub IsOnText : Verdict → Type 0
IsOnText verdict.ReadFault = ⊥
IsOnText verdict.Memory = ⊥
IsOnText other = ⊤

-- the verdict is that on the bytes that were left, where the source tells them. What is accepted was read to its end, and no more than
-- one byte past the limit was taken: that one too where the text is too long
pub record Judges (IsIts : List ℕ → Verdict → Type 0) (left left' : Option (List ℕ)) (faults faults' : ℕ) (v : Verdict) : Type 0 where
  pub on_text : IsOnText v
  pub told : (bytes : List ℕ) → left ≡ Some bytes → IsIts bytes v
  pub ended : (u gap : ℤ) → v ≡ verdict.Accepted u gap → IsSpent left'
  pub most : TakesAtMost (limit + 1) left left'
  pub long : v ≡ verdict.Refused fault.TooLong → TakesExactly (limit + 1) left left'
  pub no_fault : faults' ≡ faults

-- a read fault, which was counted
pub record FailsToRead (left left' : Option (List ℕ)) (faults faults' : ℕ) : Type 0 where
  pub most : TakesAtMost limit left left'
  pub fault : CountsFault faults faults'

-- the verdict on a stream, or none where the source failed
abbrev pub JudgesOrFails : Option (List ℕ) → Option (List ℕ) → ℕ → ℕ → Option Verdict → Type 0
JudgesOrFails left left' faults faults' (Some v) = Judges IsStreamVerdict left left' faults faults' v
JudgesOrFails left left' faults faults' None = FailsToRead left left' faults faults'

-- or a read fault
abbrev pub AnswersStream : Option (List ℕ) → Option (List ℕ) → ℕ → ℕ → Verdict → Type 0
AnswersStream left left' faults faults' v =
    Judges IsStreamVerdict left left' faults faults' v ⊎ ((v ≡ verdict.ReadFault) × FailsToRead left left' faults faults')

-- or want of memory
abbrev pub AnswersText : Option (List ℕ) → Option (List ℕ) → ℕ → ℕ → Verdict → Type 0
AnswersText left left' faults faults' v =
    Judges IsTextVerdict left left' faults faults' v
    ⊎ ((v ≡ verdict.ReadFault) × FailsToRead left left' faults faults')
    ⊎ ((v ≡ verdict.Memory) × TakesAtMost (limit + 1) left left' × (faults' ≡ faults))
