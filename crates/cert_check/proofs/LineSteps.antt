-- A byte of the line `end`, and lines of which 401 bytes are kept.
use Rattle.std.proofs.Common.{◌≡◌, ℕ, ◌+◌, ◌≤◌, ◌<◌, List, [], ◌∷◌, ◌++◌, length, refl, ap, arith, Bool, true, false, inl, inr, if◌then◌else◌}
use Rattle.std.specs.Prelude.{◌==◌, codes}
use Rattle.std.specs.Str.{bytes_eq}
use Rattle.std.proofs.lemmas.Bool.{cases_lt, eqb-true, lt-ltb, le-ltb}
use Rattle.std.proofs.lemmas.List.{length-append}
use Rattle.std.proofs.lemmas.Slice.Eq.{bytes_eq-Decides}
use Rattle.cert_lines.specs.declared.faults.CertFault.TheVariants.{Line}
use Rattle.cert_format.specs.declared.heads.Head.{Head}
use Rattle.cert_format.specs.declared.verdicts.Verdict.TheVariants.{Refused}
use Rattle.cert_format.specs.Heads.{said_of}
use Rattle.cert_check.specs.Judging.{verdict_at_end, verdict_behind_end}
use Rattle.cert_check.specs.Checking.{longer}

-- ---- lines
pub no_newline : (b : ℕ) → (b ≡ 10 → ⊥) → (b == 10) ≡ false
no_newline b other = by_case (b == 10) refl
  where
    by_case : (x : Bool) → (b == 10) ≡ x → x ≡ false
    by_case true k = absurd (other (eqb-true b 10 k))
    by_case false k = refl

-- a line that is too long stays as it is
pub stays : (line : List ℕ) (b : ℕ) → 401 ≤ length line → longer line b ≡ line
stays line b long = rw (le-ltb (length line) 401 long) refl

pub grows : (line : List ℕ) (b : ℕ) → length line < 401 → longer line b ≡ line ++ b ∷ []
grows line b short = rw (lt-ltb (length line) 401 short) refl

pub still_long : (line : List ℕ) (b : ℕ) → 401 ≤ length line → 401 ≤ length (line ++ b ∷ [])
still_long line b long = omega (arith, long, length-append line (b ∷ []))

-- ---- the line `end`
pub ends : (h : Head) (line : List ℕ) (b : ℕ) (bytes : List ℕ) → (b == 10) ≡ true → bytes_eq line (codes "end") ≡ true
    → verdict_at_end h line (b ∷ bytes) ≡ verdict_behind_end h bytes
unfolding verdict_at_end
ends h line b bytes e t = rw (e, t) refl

pub is_other : (h : Head) (line : List ℕ) (b : ℕ) (bytes : List ℕ) → (b == 10) ≡ true → bytes_eq line (codes "end") ≡ false
    → verdict_at_end h line (b ∷ bytes) ≡ Refused (Line (length (said_of h) + 2))
unfolding verdict_at_end
is_other h line b bytes e t = rw (e, t) refl

same_bytes : (xs ys : List ℕ) → bytes_eq xs ys ≡ true → xs ≡ ys
same_bytes xs ys e = (bytes_eq-Decides xs ys).0 e

no_end : (line : List ℕ) → 401 ≤ length line → bytes_eq line (codes "end") ≡ false
no_end line long = by_case (bytes_eq line (codes "end")) refl
  where
    by_case : (x : Bool) → bytes_eq line (codes "end") ≡ x → x ≡ false
    by_case true k =
        let three : length line ≡ 3 = ap length (same_bytes line (codes "end") k) in
        absurd (omega (arith, long, three))
    by_case false k = refl

-- two lines that are too long are no `end`, whatever follows
long_alike : (h : Head) (x y bytes : List ℕ) → 401 ≤ length x → 401 ≤ length y → verdict_at_end h x bytes ≡ verdict_at_end h y bytes
unfolding verdict_at_end
long_alike h x y [] long long' = refl
long_alike h x y (b ∷ bytes) long long' =
    rw (no_end x long, no_end y long') (by_byte (b == 10) (long_alike h (x ++ b ∷ []) (y ++ b ∷ []) bytes (still_long x b long) (still_long y b long')))
  where
    by_byte : (t : Bool) → verdict_at_end h (x ++ b ∷ []) bytes ≡ verdict_at_end h (y ++ b ∷ []) bytes
        → (if t then Refused (Line (length (said_of h) + 2)) else verdict_at_end h (x ++ b ∷ []) bytes)
        ≡ (if t then Refused (Line (length (said_of h) + 2)) else verdict_at_end h (y ++ b ∷ []) bytes)
    by_byte true e = refl
    by_byte false e = e

further : (h : Head) (line : List ℕ) (b : ℕ) (bytes : List ℕ) → (b == 10) ≡ false → verdict_at_end h line (b ∷ bytes) ≡ verdict_at_end h (line ++ b ∷ []) bytes
unfolding verdict_at_end
further h line b bytes e = rw e refl

pub keeps_end : (h : Head) (line : List ℕ) (b : ℕ) (bytes : List ℕ) → (b ≡ 10 → ⊥) → verdict_at_end h line (b ∷ bytes) ≡ verdict_at_end h (longer line b) bytes
keeps_end h line b bytes other = elim (cases_lt (length line) 401) [
  | inl short ↦ rw (grows line b short) (further h line b bytes (no_newline b other))
  | inr long ↦ rw (stays line b long, further h line b bytes (no_newline b other)) (long_alike h (line ++ b ∷ []) line bytes (still_long line b long) long)
]
