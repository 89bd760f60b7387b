-- Looking for a name among the lines.
use Rattle.std.proofs.Common.{◌≡◌, ℕ, ◌+◌, ◌<◌, ◌≤◌, List, ◌∷◌, length, get_or, drop, map, Bool, true, false, not, ◌&&◌, refl, ap, ◌∙◌, arith}
use Rattle.std.specs.List.{list_any}
use Rattle.std.proofs.lemmas.List.{drop_more, drop_all, get_or-map, length-map}
use Rattle.cert_lines.specs.declared.lines.Entry.{Entry}
use Rattle.cert_lines.specs.Lines.{Said, said_by}

split : (es : List Entry) (i : ℕ) (d : Entry) → i < length es → drop i (map said_by es) ≡ said_by (get_or es i d) ∷ drop (i + 1) (map said_by es)
split es i d inside =
    drop_more (map said_by es) i (said_by d) (omega (arith, length-map es said_by, inside))
    ∙ ap (λ (s : Said). s ∷ drop (i + 1) (map said_by es)) (get_or-map said_by es i d (said_by d) inside)

pub any_here : (p : Said → Bool) (es : List Entry) (i : ℕ) (e : Entry) → i < length es → e ≡ get_or es i e → p (said_by e) ≡ true → list_any p (drop i (map said_by es)) ≡ true
any_here p es i e inside is passed = rw (split es i e inside, ← is, passed) refl

pub any_more : (p : Said → Bool) (es : List Entry) (i : ℕ) (e : Entry) → i < length es → e ≡ get_or es i e → p (said_by e) ≡ false
    → list_any p (drop i (map said_by es)) ≡ list_any p (drop (i + 1) (map said_by es))
any_more p es i e inside is failed = rw (split es i e inside, ← is, failed) refl

pub any_end : (p : Said → Bool) (es : List Entry) (i : ℕ) → length es ≤ i → list_any p (drop i (map said_by es)) ≡ false
any_end p es i end = rw (drop_all i (map said_by es) (omega (arith, length-map es said_by, end))) refl

-- a test that a name among the lines decides
pub stands : (found more : Bool) → found ≡ true → false ≡ (not found && more)
stands found more e = rw e refl

pub is_new : (found more : Bool) → found ≡ false → more ≡ (not found && more)
is_new found more e = rw e refl
