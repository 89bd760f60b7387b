-- A byte of a line of the head.
use Rattle.std.proofs.Common.{◌≡◌, ℕ, ◌≤◌, List, [], ◌∷◌, ◌++◌, length, refl, Bool, true, false, inl, inr, if◌then◌else◌, Option, Some, None}
use Rattle.std.specs.Prelude.{◌==◌}
use Rattle.std.proofs.lemmas.Bool.{cases_lt}
use Rattle.cert_lines.specs.Heads.{Draft, with_line, next_place, fault_of}
use Rattle.cert_lines.specs.HeadTexts.{Wrong, Whole, head_end}
use Rattle.cert_lines.specs.declared.places.Place.{Place}
use Rattle.cert_lines.proofs.Exports.{long_line}
use Rattle.cert_check.specs.Checking.{longer}
use Rattle.cert_check.proofs.LineSteps.{grows, stays, still_long, no_newline}

-- a line that is too long can't stand
long_none : (d : Draft) (line : List ℕ) → 401 ≤ length line → with_line d line ≡ None
long_none d line long = by_case (with_line d line) refl
  where
    by_case : (o : Option Draft) → with_line d line ≡ o → o ≡ None
    by_case (Some x) k = absurd (long_line d line x long k)
    by_case None k = refl

long_alike : (d : Draft) (x y bytes : List ℕ) → 401 ≤ length x → 401 ≤ length y → head_end d x bytes ≡ head_end d y bytes
unfolding head_end
long_alike d x y [] long long' = refl
long_alike d x y (b ∷ bytes) long long' =
    rw (long_none d x long, long_none d y long') (by_byte (b == 10) (long_alike d (x ++ b ∷ []) (y ++ b ∷ []) bytes (still_long x b long) (still_long y b long')))
  where
    by_byte : (t : Bool) → head_end d (x ++ b ∷ []) bytes ≡ head_end d (y ++ b ∷ []) bytes
        → (if t then Wrong (fault_of d) else head_end d (x ++ b ∷ []) bytes) ≡ (if t then Wrong (fault_of d) else head_end d (y ++ b ∷ []) bytes)
    by_byte true e = refl
    by_byte false e = e

further : (d : Draft) (line : List ℕ) (b : ℕ) (bytes : List ℕ) → (b == 10) ≡ false → head_end d line (b ∷ bytes) ≡ head_end d (line ++ b ∷ []) bytes
unfolding head_end
further d line b bytes e = rw e refl

pub keeps_line : (d : Draft) (line : List ℕ) (b : ℕ) (bytes : List ℕ) → (b ≡ 10 → ⊥) → head_end d line (b ∷ bytes) ≡ head_end d (longer line b) bytes
keeps_line d line b bytes other = elim (cases_lt (length line) 401) [
  | inl short ↦ rw (grows line b short) (further d line b bytes (no_newline b other))
  | inr long ↦ rw (stays line b long, further d line b bytes (no_newline b other)) (long_alike d (line ++ b ∷ []) line bytes (still_long line b long) long)
]

-- ---- a newline
pub wrong : (d : Draft) (line : List ℕ) (b : ℕ) (bytes : List ℕ) → (b == 10) ≡ true → with_line d line ≡ None → head_end d line (b ∷ bytes) ≡ Wrong (fault_of d)
unfolding head_end
wrong d line b bytes e w = rw (e, w) refl

pub more : (d after : Draft) (p : Place) (line : List ℕ) (b : ℕ) (bytes : List ℕ) → (b == 10) ≡ true → with_line d line ≡ Some after → next_place after ≡ Some p
    → head_end d line (b ∷ bytes) ≡ head_end after [] bytes
unfolding head_end
more d after p line b bytes e w n = rw (e, w, n) refl

pub whole : (d after : Draft) (line : List ℕ) (b : ℕ) (bytes : List ℕ) → (b == 10) ≡ true → with_line d line ≡ Some after → next_place after ≡ None
    → head_end d line (b ∷ bytes) ≡ Whole after bytes
unfolding head_end
whole d after line b bytes e w n = rw (e, w, n) refl
