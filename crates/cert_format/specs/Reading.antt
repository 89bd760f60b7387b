-- A head that was read, and what a line of one leads to.
use Rattle.std.specs.Prelude.{ℕ, ◌≡◌, ◌≤◌, ◌⊎◌, List, [], length, drop, Some, None, Result, Ok, Err, IsSome}
use Rattle.cert_lines.specs.Heads.{Draft, blank, next_place, with_line, fault_of}
use Rattle.cert_lines.specs.HeadTexts.{head_end, with_lines, Whole, Wrong, CutOff}
use Rattle.cert_lines.specs.declared.faults.CertFault.{CertFault}
use Rattle.cert_lines.specs.declared.faults.CertFault.TheVariants as fault
use Rattle.cert_format.specs.declared.heads.Head.{Head}
use Rattle.cert_format.specs.declared.head_reader.HeadStep.{HeadStep}
use Rattle.cert_format.specs.declared.head_reader.HeadStep.TheVariants as step
use Rattle.cert_format.specs.Heads.{IsHead, said_of, shape_of}

-- the lines were read from the first on
abbrev pub IsRead : Draft → Type 0
IsRead d = (lines : List (List ℕ)) × (with_lines blank lines ≡ Some d)

-- the head says what the lines said
pub record IsHeadOf (d : Draft) (h : Head) : Type 0 where
  pub head : IsHead h
  pub shape : d.shape ≡ shape_of h
  pub said : d.said ≡ said_of h

-- what a line leads to
abbrev pub Steps : Draft → List ℕ → Draft → HeadStep → Type 0
Steps d line after step.More = (with_line d line ≡ Some after) × IsSome (next_place after)
Steps d line after (step.Done h) = (with_line d line ≡ Some after) × (next_place after ≡ None) × IsHeadOf after h
Steps d line after (step.Bad f) = (with_line d line ≡ None) × (f ≡ fault_of d) × (after ≡ d)

-- what was read: a head and the place behind it, or why there is none
abbrev pub ReadsHead : List ℕ → Result (Head × ℕ) CertFault → Type 0
ReadsHead text (Ok x) = (d : Draft) × (head_end blank [] text ≡ Whole d (drop x.1 text)) × (x.1 ≤ length text) × IsHeadOf d x.0
ReadsHead text (Err f) = (head_end blank [] text ≡ Wrong f) ⊎ ((head_end blank [] text ≡ CutOff) × (f ≡ fault.Cut))
