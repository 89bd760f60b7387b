-- A byte is the letter of one step alone.
use Rattle.std.proofs.Common.{◌≡◌, ℕ, zero, suc, ◌+◌, ◌-◌, ◌<◌, ◌≤◌, refl, sym, subst, Bool, true, false, ◌&&◌, if◌then◌else◌, arith, inl, inr, Some, None}
use Rattle.std.specs.Prelude.{◌==◌, nat_le, nat_lt}
use Rattle.std.proofs.lemmas.Bool.{eqb-true, ltb-true, lt-ltb, leb-true}
use Rattle.std.proofs.lemmas.Bool.Decides.{nat_tests}
use Rattle.case_types.specs.Grid.Cells.{Misses, Plain, Sloped, Step, Ends, Halves, letter_of}
use Rattle.cert_letters.specs.Steps.{step_of, IsEdgeOf}

-- the letter of a step of n components
abbrev pub IsStepOf : ℕ → Step → Type 0
IsStepOf n (Ends mark) = Unit {0}
IsStepOf n (Halves edge) = IsEdgeOf n edge

pub step_again : (n : ℕ) (s : Step) → n ≤ 4 → IsStepOf n s → step_of n (letter_of s) ≡ Some s
unfolding step_of
step_again n (Ends Misses) few h = refl
step_again n (Ends Plain) few h = refl
step_again n (Ends Sloped) few h = refl
step_again n (Halves edge) few (inr e) = rw e refl
step_again n (Halves zero) few (inl h) = rw (lt-ltb 49 (48 + n) (omega arith)) refl
step_again n (Halves (suc zero)) few (inl h) = rw (lt-ltb 50 (48 + n) (omega arith)) refl
step_again n (Halves (suc (suc zero))) few (inl h) = rw (lt-ltb 51 (48 + n) (omega arith)) refl
step_again n (Halves (suc (suc (suc k)))) few (inl h) = absurd (omega arith)

-- a letter that stands for a step is that step's
pub record IsLetterOf (n b : ℕ) (s : Step) : Type 0 where
  pub letter : letter_of s ≡ b
  pub edge : IsStepOf n s

fraction_letter : (n b : ℕ) → n ≤ 4 → nat_le 49 b ≡ true → nat_lt b (48 + n) ≡ true → IsLetterOf n b (Halves (b - 49))
fraction_letter n b few low high =
    let l : 49 ≤ b = leb-true 49 b low in
    let h : b < 48 + n = ltb-true b (48 + n) high in
    let no : (b - 49 == 3) ≡ false = other (b - 49) (omega arith) in
    record { letter = rw no (omega arith); edge = inl (omega arith) }
  where
    other : (e : ℕ) → e < 3 → (e == 3) ≡ false
    other e h = grind (arith, nat_tests)

pub step_takes : (n b : ℕ) (s : Step) → n ≤ 4 → step_of n b ≡ Some s → IsLetterOf n b s
unfolding step_of
step_takes n b s few e = misses (b == 109) (b == 112) (b == 115) (b == 121) (nat_le 49 b) (nat_lt b (48 + n)) refl refl refl refl refl refl e
  where
    some : (x y : Step) → Some x ≡ Some y → x ≡ y
    some x y e = cc

    misses : (m p t y l h : Bool) → (b == 109) ≡ m → (b == 112) ≡ p → (b == 115) ≡ t → (b == 121) ≡ y → nat_le 49 b ≡ l → nat_lt b (48 + n) ≡ h
        → (if m then Some (Ends Misses) else (if p then Some (Ends Plain) else (if t then Some (Ends Sloped) else (if y then Some (Halves 3) else (if l && h then Some (Halves (b - 49)) else None))))) ≡ Some s
        → IsLetterOf n b s
    misses true p t y l h em ep et ey el eh e = subst (IsLetterOf n b) (some (Ends Misses) s e) (record { letter = sym (eqb-true b 109 em); edge = tt })
    misses false true t y l h em ep et ey el eh e = subst (IsLetterOf n b) (some (Ends Plain) s e) (record { letter = sym (eqb-true b 112 ep); edge = tt })
    misses false false true y l h em ep et ey el eh e = subst (IsLetterOf n b) (some (Ends Sloped) s e) (record { letter = sym (eqb-true b 115 et); edge = tt })
    misses false false false true l h em ep et ey el eh e = subst (IsLetterOf n b) (some (Halves 3) s e) (record { letter = sym (eqb-true b 121 ey); edge = inr refl })
    misses false false false false true true em ep et ey el eh e = subst (IsLetterOf n b) (some (Halves (b - 49)) s e) (fraction_letter n b few el eh)
    misses false false false false true false em ep et ey el eh e = absurd cc
    misses false false false false false h em ep et ey el eh e = absurd cc
