-- What is left to judge of a certificate, of which the first bytes were taken.
use Rattle.std.specs.Prelude.{ℕ, ◌+◌, ◌-◌, ◌≡◌, ◌≤◌, nat_lt, List, [], ◌∷◌, ◌++◌, length, if◌then◌else◌, Option, Some, None, IsSome}
use Rattle.cert_letters.specs.Readings.{Reading, fresh}
use Rattle.cert_letters.specs.Lines.{line_end}
use Rattle.cert_lines.specs.Heads.{Draft, next_place}
use Rattle.cert_lines.specs.HeadTexts.{head_end}
use Rattle.cert_format.specs.declared.heads.Head.{Head}
use Rattle.cert_format.specs.declared.verdicts.Verdict.{Verdict}
use Rattle.cert_format.specs.Heads.{IsHead}
use Rattle.cert_check.specs.declared.tail.Part.{Part}
use Rattle.cert_check.specs.declared.tail.Part.TheVariants as part
use Rattle.cert_check.specs.Judging.{IsVerdictAfter, verdict_behind_letters, verdict_at_end, verdict_behind_end}
use Rattle.cert_check.specs.Streams.{past_limit}
use Rattle.cert_check.specs.Tests.{passes}

-- ---- a line that begins
-- a line of more bytes is none of a head, and isn't `end`
abbrev pub longer : List ℕ → ℕ → List ℕ
longer line b = if nat_lt (length line) 401 then line ++ b ∷ [] else line

-- ---- behind the head
-- the part of the text that is read, the head, how far the letters were read, and how the line `end` begins
pub record TailState : Type 0 where
  pub part : Part
  pub head : Head
  pub reading : Reading
  pub line : List ℕ

abbrev pub before_letters : Head → TailState
before_letters h = record { part = part.Letters; head = h; reading = fresh h.params.case.n h.letters; line = [] }

-- the place of the next letter, from 1
abbrev pub place_in : Head → Reading → ℕ
place_in h r = h.letters - r.left + 1

-- the verdict where these bytes follow
abbrev pub verdict_in : Part → TailState → List ℕ → Verdict
verdict_in part.Letters s bytes = verdict_behind_letters s.head (line_end (passes s.head) s.reading (place_in s.head s.reading) bytes)
verdict_in part.Closing s bytes = verdict_at_end s.head s.line bytes
verdict_in part.Closed s bytes = verdict_behind_end s.head bytes

-- no more letters are left than the head states, and no `end` has begun before its line
pub record IsBegun (s : TailState) : Type 0 where
  pub head : IsHead s.head
  pub left : s.reading.left ≤ s.head.letters
  pub line : s.part ≡ part.Letters → s.line ≡ []

-- what the next byte leads to: a verdict that doesn't rest on what follows it, or a state that has the same verdicts left
abbrev pub TailTakes : TailState → ℕ → TailState → Option Verdict → Type 0
TailTakes s b after None = (bytes : List ℕ) → verdict_in s.part s (b ∷ bytes) ≡ verdict_in after.part after bytes
TailTakes s b after (Some v) = ((bytes : List ℕ) → verdict_in s.part s (b ∷ bytes) ≡ v) × (past_limit v ≡ v)

-- ---- the whole text
pub data State : Type 0 where
  -- the lines of the head so far, and how the next one begins
  InHead : Draft → List ℕ → State
  Behind : TailState → State

abbrev pub state_of : Draft → List ℕ → Option TailState → State
state_of d line None = InHead d line
state_of d line (Some s) = Behind s

-- a further line is wanted as long as the head is read
abbrev pub IsOpen : State → Type 0
IsOpen (InHead d line) = IsSome (next_place d)
IsOpen (Behind s) = Unit {0}

-- it is the verdict where these bytes follow
abbrev pub Gives : State → List ℕ → Verdict → Type 0
Gives (InHead d line) bytes v = IsVerdictAfter (head_end d line bytes) v
Gives (Behind s) bytes v = v ≡ verdict_in s.part s bytes

-- what some bytes lead to
abbrev pub Takes : State → List ℕ → State → Option Verdict → Type 0
Takes s taken after None = (bytes : List ℕ) (v : Verdict) → Gives after bytes v → Gives s (taken ++ bytes) v
Takes s taken after (Some v) = ((bytes : List ℕ) → Gives s (taken ++ bytes) v) × (past_limit v ≡ v)
