-- The fields of a record, one at a time.
use Rattle.std.proofs.Common.{◌≡◌, ℕ, zero, suc, ◌+◌, ◌<◌, List, [], ◌∷◌, length, get_or, drop, Bool, true, false, refl, Some, None}
use Rattle.std.specs.List.{list_all}
use Rattle.std.proofs.lemmas.List.{drop_more}
use Rattle.std.specs.Str.{IsUtf8, is_utf8}
use Rattle.std.proofs.lemmas.Str.{IsUtf8-from_is_utf8}
use Rattle.csv.specs.Records.{field_at}

-- ---- the field at an index, where there is one
pub field-there : (fs : List (List ℕ)) (i : ℕ) (t : List ℕ) → Some t ≡ field_at fs i → t ≡ get_or fs i []
unfolding field_at
field-there [] i t e = absurd (cc)
field-there (f ∷ fs) zero t e = cc
field-there (f ∷ fs) (suc i) t e = field-there fs i t e

pub field-none : (fs : List (List ℕ)) (i : ℕ) → None ≡ field_at fs i → [] ≡ get_or fs i []
unfolding field_at
field-none [] i e = refl
field-none (f ∷ fs) zero e = absurd (cc)
field-none (f ∷ fs) (suc i) e = field-none fs i e

-- ---- a test of the rest of the fields
pub all-more : (p : List ℕ → Bool) (fs : List (List ℕ)) (i : ℕ) → i < length fs → p (get_or fs i []) ≡ true
    → list_all p (drop i fs) ≡ list_all p (drop (i + 1) fs)
all-more p fs i inside good = rw (drop_more fs i [] inside, good) refl

pub all-stops : (p : List ℕ → Bool) (fs : List (List ℕ)) (i : ℕ) → i < length fs → p (get_or fs i []) ≡ false → list_all p (drop i fs) ≡ false
all-stops p fs i inside bad = rw (drop_more fs i [] inside, bad) refl

-- ---- a text that isn't UTF-8 fails the test
pub not_utf8 : (t : List ℕ) → (IsUtf8 t → ⊥) → is_utf8 t ≡ false
not_utf8 t h = go (is_utf8 t) refl
  where
    go : (b : Bool) → is_utf8 t ≡ b → is_utf8 t ≡ false
    go true e = absurd (h (IsUtf8-from_is_utf8 t e))
    go false e = e
