-- The line at the front of a text.
use Rattle.std.proofs.Common.{◌≡◌, ℕ, suc, ◌+◌, ◌-◌, ◌<◌, ◌≤◌, List, [], ◌∷◌, ◌++◌, length, take, drop, refl, sym, ap, ◌∙◌, arith, Bool, true, false, not, if◌then◌else◌, cond, append_assoc, Option, Some, None}
use Rattle.std.specs.Prelude.{◌==◌, IsSome}
use Rattle.std.proofs.lemmas.List.{append-nil, take_rest, drop-drop, drop_all, length-drop}
use Rattle.cert_lines.specs.declared.places.Place.{Place}
use Rattle.cert_lines.specs.Heads.{Draft, with_line, next_place, fault_of}
use Rattle.cert_lines.specs.HeadTexts.{head_end, HeadEnd, CutOff, Wrong, Whole, after_line, after_next, line_length}

-- a line with its newline
pub reads_line : (d : Draft) (line text : List ℕ) → line_length text < length text
    → head_end d line text ≡ after_line d (with_line d (line ++ take (line_length text) text)) (λ x. head_end x [] (drop (line_length text + 1) text)) (drop (line_length text + 1) text)
unfolding head_end
reads_line d line [] some = absurd (omega arith)
reads_line d line (b ∷ text) some = by_byte (λ l k. reads_line d l text k) (b == 10) refl some
  where
    by_byte : ((l : List ℕ) → line_length text < length text → head_end d l text ≡ after_line d (with_line d (l ++ take (line_length text) text)) (λ x. head_end x [] (drop (line_length text + 1) text)) (drop (line_length text + 1) text))
        → (t : Bool) → (b == 10) ≡ t → cond (not t) (1 + line_length text) 0 < suc (length text)
        → (if t then after_line d (with_line d line) (λ x. head_end x [] text) text else head_end d (line ++ b ∷ []) text)
        ≡ after_line d (with_line d (line ++ take (cond (not t) (1 + line_length text) 0) (b ∷ text))) (λ x. head_end x [] (drop (cond (not t) (1 + line_length text) 0 + 1) (b ∷ text))) (drop (cond (not t) (1 + line_length text) 0 + 1) (b ∷ text))
    by_byte again true h s = rw (append-nil line) refl
    by_byte again false h s =
        let n : 1 + line_length text ≡ suc (line_length text) = omega arith in
        let m : suc (line_length text) + 1 ≡ suc (line_length text + 1) = omega arith in
        rw (n, m) (again (line ++ b ∷ []) (omega (arith, s)) ∙ rw (append_assoc line (b ∷ []) (take (line_length text) text)) refl)

-- a line without it
pub cut_line : (d : Draft) (line text : List ℕ) → length text ≤ line_length text → head_end d line text ≡ CutOff
unfolding head_end
cut_line d line [] h = refl
cut_line d line (b ∷ text) h = by_byte (λ l k. cut_line d l text k) (b == 10) refl h
  where
    by_byte : ((l : List ℕ) → length text ≤ line_length text → head_end d l text ≡ CutOff) → (t : Bool) → (b == 10) ≡ t → suc (length text) ≤ cond (not t) (1 + line_length text) 0
        → (if t then after_line d (with_line d line) (λ x. head_end x [] text) text else head_end d (line ++ b ∷ []) text) ≡ CutOff
    by_byte again true e h = absurd (omega arith)
    by_byte again false e h = again (line ++ b ∷ []) (omega (arith, h))

-- ---- the line at a place of a text
-- the next line, as a slice has it
pub at_line : (d : Draft) (all : List ℕ) (at n : ℕ) (total : HeadEnd) → at ≤ length all → n ≡ line_length (take (length all - at) (drop at all)) → at + n < length all
    → head_end d [] (drop at all) ≡ total
    → after_line d (with_line d (take (at + n - at) (drop at all))) (λ x. head_end x [] (drop (at + n + 1) all)) (drop (at + n + 1) all) ≡ total
at_line d all at n total inside is short e =
    let rest : n ≡ line_length (drop at all) = is ∙ ap line_length (take_rest all at) in
    let long : length (drop at all) ≡ length all - at = length-drop at all in
    let some : line_length (drop at all) < length (drop at all) = omega (arith, rest, long, short) in
    let len : at + n - at ≡ line_length (drop at all) = omega (arith, rest) in
    let sum : at + n + 1 ≡ at + (line_length (drop at all) + 1) = omega (arith, rest) in
    let behind : drop (at + n + 1) all ≡ drop (line_length (drop at all) + 1) (drop at all) = ap (λ (k : ℕ). drop k all) sum ∙ sym (drop-drop (line_length (drop at all) + 1) at all) in
    rw (len, behind) (sym (reads_line d [] (drop at all) some) ∙ e)

pub no_line : (d : Draft) (all : List ℕ) (at n : ℕ) (total : HeadEnd) → at ≤ length all → n ≡ line_length (take (length all - at) (drop at all)) → at + n ≡ length all
    → head_end d [] (drop at all) ≡ total → total ≡ CutOff
no_line d all at n total inside is end e =
    let rest : n ≡ line_length (drop at all) = is ∙ ap line_length (take_rest all at) in
    let long : length (drop at all) ≡ length all - at = length-drop at all in
    sym e ∙ cut_line d [] (drop at all) (omega (arith, rest, long, end))

pub no_text : (d : Draft) (all : List ℕ) (at : ℕ) (total : HeadEnd) → length all ≤ at → head_end d [] (drop at all) ≡ total → total ≡ CutOff
unfolding head_end
no_text d all at total end e = sym e ∙ rw (drop_all at all end) refl

goes : (x : Draft) (o : Option Place) (further : HeadEnd) (rest : List ℕ) → IsSome o → after_next x o further rest ≡ further
goes x (Some p) further rest h = refl
goes x None further rest h = absurd cc

pub more : (d x : Draft) (line rest : List ℕ) (further : Draft → HeadEnd) (total : HeadEnd) → with_line d line ≡ Some x → IsSome (next_place x)
    → after_line d (with_line d line) further rest ≡ total → further x ≡ total
more d x line rest further total h k e =
    let f : after_next x (next_place x) (further x) rest ≡ total = rw h at e in
    sym (goes x (next_place x) (further x) rest k) ∙ f

pub done : (d x : Draft) (line rest : List ℕ) (further : Draft → HeadEnd) (total : HeadEnd) → with_line d line ≡ Some x → next_place x ≡ None
    → after_line d (with_line d line) further rest ≡ total → total ≡ Whole x rest
done d x line rest further total h k e =
    let f : Whole x rest ≡ total = rw (h, k) at e in
    sym f

pub wrong : (d : Draft) (line rest : List ℕ) (further : Draft → HeadEnd) (total : HeadEnd) → with_line d line ≡ None → after_line d (with_line d line) further rest ≡ total → total ≡ Wrong (fault_of d)
wrong d line rest further total h e =
    let f : Wrong (fault_of d) ≡ total = rw h at e in
    sym f
