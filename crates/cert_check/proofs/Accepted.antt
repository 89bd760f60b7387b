-- What is accepted is the text of a good certificate.
use Rattle.std.proofs.Common.{◌≡◌, ℕ, suc, ◌+◌, List, [], ◌∷◌, ◌++◌, length, map, refl, sym, ap, ◌∙◌, arith, Option, Some, None, Bool, true, false, append_assoc, if◌then◌else◌, ℤ}
use Rattle.std.specs.Prelude.{◌==◌, codes}
use Rattle.std.specs.Str.{bytes_eq}
use Rattle.std.specs.List.{slice_get}
use Rattle.std.proofs.lemmas.List.{length-append}
use Rattle.std.proofs.lemmas.Bool.{eqb-true}
use Rattle.std.proofs.lemmas.Slice.Eq.{bytes_eq-Decides}
use Rattle.cert_letters.specs.Lines.{LineEnd, CutAt, BadAt, FailsAt, Behind, line_end, tree_letters}
use Rattle.cert_letters.specs.Readings.{fresh}
use Rattle.cert_letters.proofs.Exports.{line_takes}
use Rattle.cert_lines.specs.declared.faults.CertFault.TheVariants.{Line}
use Rattle.cert_lines.specs.declared.places.Place.{Place}
use Rattle.cert_lines.specs.Forms.{word_of, is_named}
use Rattle.cert_lines.specs.Lines.{Said, line_text}
use Rattle.cert_lines.specs.Places.{place_at, places}
use Rattle.cert_lines.specs.Heads.{Draft, blank, put}
use Rattle.cert_lines.specs.HeadTexts.{HeadEnd, CutOff, Wrong, Whole, head_end, with_lines, lines_text, Says}
use Rattle.cert_lines.proofs.Exports.{heads_are_read, lines_take, places_stand, shape_kept}
use Rattle.cert_format.specs.declared.heads.Head.{Head}
use Rattle.cert_format.specs.declared.verdicts.Verdict.TheVariants.{Accepted, Refused}
use Rattle.cert_format.specs.Heads.{says, said_of, shape_of, head_text, line_of}
use Rattle.cert_format.specs.Reading.{IsHeadOf}
use Rattle.cert_check.specs.declared.broken.Broken.{Broken}
use Rattle.cert_check.specs.declared.broken.Broken.TheVariants as broken
use Rattle.cert_check.specs.Tests.{first_broken, passes}
use Rattle.cert_check.specs.Judging.{verdict_of, verdict_behind_end, verdict_at_end, verdict_behind_letters, verdict_after, verdict_behind_head, IsVerdictAfter}
use Rattle.cert_check.specs.Certificates.{IsGoodText, AcceptedIsGood}

-- ---- behind the letters
-- the text behind a line so far, and the numbers of the verdict
record Ends (h : Head) (rest : List ℕ) (u gap : ℤ) : Type 0 where
  closes : rest ≡ codes "end" ++ 10 ∷ []
  same_u : h.u ≡ u
  same_gap : h.gap ≡ gap

accepted_is : (u v gap low : ℤ) → Accepted u gap ≡ Accepted v low → (u ≡ v) × (gap ≡ low)
accepted_is u v gap low e = (cc, cc)

record IsEnd (h : Head) (bytes : List ℕ) (u gap : ℤ) : Type 0 where
  none : bytes ≡ []
  same_u : h.u ≡ u
  same_gap : h.gap ≡ gap

behind_end : (h : Head) (bytes : List ℕ) (u gap : ℤ) → verdict_behind_end h bytes ≡ Accepted u gap → IsEnd h bytes u gap
unfolding verdict_behind_end
behind_end h [] u gap e = let both = accepted_is h.u u h.gap gap e in record { none = refl; same_u = both.0; same_gap = both.1 }
behind_end h (b ∷ bytes) u gap e = absurd cc

at_end : (h : Head) (line bytes : List ℕ) (u gap : ℤ) → verdict_at_end h line bytes ≡ Accepted u gap → Ends h (line ++ bytes) u gap
unfolding verdict_at_end
at_end h line [] u gap e = absurd cc
at_end h line (b ∷ bytes) u gap e = by_byte (b == 10) (bytes_eq line (codes "end")) refl refl (λ f. at_end h (line ++ b ∷ []) bytes u gap f) e
  where
    by_byte : (t w : Bool) → (b == 10) ≡ t → bytes_eq line (codes "end") ≡ w → (verdict_at_end h (line ++ b ∷ []) bytes ≡ Accepted u gap → Ends h ((line ++ b ∷ []) ++ bytes) u gap)
        → (if t then (if w then verdict_behind_end h bytes else Refused (Line (length (said_of h) + 2))) else verdict_at_end h (line ++ b ∷ []) bytes) ≡ Accepted u gap
        → Ends h (line ++ b ∷ bytes) u gap
    by_byte true true k l again e =
        let end = behind_end h bytes u gap e in
        let same : line ≡ codes "end" = (bytes_eq-Decides line (codes "end")).0 l in
        record { closes = rw (same, eqb-true b 10 k, end.none) refl; same_u = end.same_u; same_gap = end.same_gap }
    by_byte true false k l again e = absurd cc
    by_byte false w k l again e =
        let f = again e in
        record { closes = sym (append_assoc line (b ∷ []) bytes) ∙ f.closes; same_u = f.same_u; same_gap = f.same_gap }

-- ---- the letters
record Letters (h : Head) (bytes : List ℕ) (u gap : ℤ) : Type 0 where
  rest : List ℕ
  ends : line_end (passes h) (fresh h.params.case.n h.letters) 1 bytes ≡ Behind rest
  closes : Ends h rest u gap

in_letters : (h : Head) (bytes : List ℕ) (x : LineEnd) (u gap : ℤ) → line_end (passes h) (fresh h.params.case.n h.letters) 1 bytes ≡ x → verdict_behind_letters h x ≡ Accepted u gap
    → Letters h bytes u gap
in_letters h bytes CutAt u gap k e = absurd cc
in_letters h bytes (BadAt place) u gap k e = absurd cc
in_letters h bytes (FailsAt leaf) u gap k e = absurd cc
in_letters h bytes (Behind rest) u gap k e = record { rest = rest; ends = k; closes = at_end h [] rest u gap e }

-- ---- the tests of the head
record Tested (h : Head) (bytes : List ℕ) (u gap : ℤ) : Type 0 where
  unbroken : first_broken h ≡ None
  letters : Letters h bytes u gap

broken_is_no : (b : Broken) (u gap : ℤ) → verdict_of b ≡ Accepted u gap → ⊥
broken_is_no broken.Params u gap e = cc
broken_is_no (broken.Balance i) u gap e = cc
broken_is_no broken.Energy u gap e = cc
broken_is_no broken.Gap u gap e = cc

by_tests : (h : Head) (o : Option Broken) (bytes : List ℕ) (u gap : ℤ) → first_broken h ≡ o → verdict_after h o bytes ≡ Accepted u gap → Tested h bytes u gap
by_tests h (Some b) bytes u gap k e = absurd (broken_is_no b u gap e)
by_tests h None bytes u gap k e =
    record { unbroken = k; letters = in_letters h bytes (line_end (passes h) (fresh h.params.case.n h.letters) 1 bytes) u gap refl e }

behind_head : (h : Head) (bytes : List ℕ) (u gap : ℤ) → verdict_behind_head h bytes ≡ Accepted u gap → Tested h bytes u gap
unfolding verdict_behind_head
behind_head h bytes u gap e = by_tests h (first_broken h) bytes u gap refl e

-- ---- the whole text
-- the lines of a draft that say this at these places of its final shape
written : (h : Head) (d after : Draft) (said : List Said) (lines : List (List ℕ)) (ps : List Place) → Says d said lines after → said ≡ map (says h) ps
    → ((i : ℕ) → place_at after.shape (length d.said + i) ≡ slice_get ps i) → lines ≡ map (line_of h) ps
unfolding Says
written h d after [] lines [] f same stand = f.0
written h d after [] lines (p ∷ ps) f same stand = absurd cc
written h d after (s ∷ said) lines [] f same stand = absurd cc
written h d after (s ∷ said) lines (p ∷ ps) f same stand =
    let both = items_are s (says h p) said (map (says h) ps) same in
    let kept = shape_kept d after (s ∷ said) lines f in
    let none_more : length d.said + 0 ≡ length d.said = omega arith in
    let final : place_at after.shape (length d.said) ≡ Some p = rw (← none_more) (stand 0) in
    let place : f.0 ≡ p = some_is f.0 p (sym f.2.next ∙ sym (kept.places (length d.said) (omega arith)) ∙ final) in
    let rest = written h (put d f.0 s) after said f.1 ps f.4 both.1 (λ i. further i) in
    f.3 ∙ line_same f.0 p s (says h p) f.1 (map (line_of h) ps) place both.0 rest
  where
    some_is : (q p : Place) → Some q ≡ Some p → q ≡ p
    some_is q p e = cc

    items_are : (x y : Said) (xs ys : List Said) → x ∷ xs ≡ y ∷ ys → (x ≡ y) × (xs ≡ ys)
    items_are x y xs ys e = (cc, cc)

    line_same : (q p : Place) (x y : Said) (ls ms : List (List ℕ)) → q ≡ p → x ≡ y → ls ≡ ms
        → line_text (word_of q) (is_named q) x ∷ ls ≡ line_text (word_of p) (is_named p) y ∷ ms
    line_same q p x y ls ms e f g = rw (e, f, g) refl

    further : (i : ℕ) → place_at after.shape (length (d.said ++ s ∷ []) + i) ≡ slice_get ps i
    further i =
        let l = length-append d.said (s ∷ []) in
        let next : length (d.said ++ s ∷ []) + i ≡ length d.said + (suc i) = omega (arith, l) in
        rw next (stand (suc i))

-- the lines that a head was read from are those that it writes
head_lines : (lines : List (List ℕ)) (d : Draft) (h : Head) → with_lines blank lines ≡ Some d → IsHeadOf d h → lines_text lines ≡ head_text h
head_lines lines d h reads of =
    let t = lines_take blank d lines reads in
    let said : t.0 ≡ map (says h) (places (shape_of h)) = sym t.2 ∙ of.said in
    ap lines_text (written h blank d t.0 lines (places (shape_of h)) t.1 said (λ i. let plain : 0 + i ≡ i = omega arith in rw (plain, of.shape) (places_stand (shape_of h) h.params.case.few i)))

by_end : (text : List ℕ) (x : HeadEnd) (u gap : ℤ) → head_end blank [] text ≡ x → IsVerdictAfter x (Accepted u gap) → (h : Head) × IsGoodText text h × (h.u ≡ u) × (h.gap ≡ gap)
by_end text CutOff u gap k is = absurd cc
by_end text (Wrong f) u gap k is = absurd cc
by_end text (Whole d bytes) u gap k is =
    let h = is.0 in
    let t = behind_head h bytes u gap (sym is.2) in
    let l = t.letters in
    let tree = line_takes h.params.case.n h.letters (passes h) bytes l.rest h.params.case.few l.ends in
    let read = heads_are_read.0 text d bytes k in
    let front = head_lines read.0 d h read.1 is.1 in (
      h,
      record {
        tree = tree.0;
        good = record { head = is.1.head; unbroken = t.unbroken; tree_good = tree.1; counted = tree.2 };
        is = read.3 ∙ ap (λ (x : List ℕ). x ++ bytes) front ∙ ap (λ (x : List ℕ). head_text h ++ x) (tree.3 ∙ ap (λ (x : List ℕ). tree_letters h.params.case.n tree.0 ++ 10 ∷ x) l.closes.closes);
      },
      l.closes.same_u,
      l.closes.same_gap,
    )

pub accepted_is_good : AcceptedIsGood
accepted_is_good text u gap is = by_end text (head_end blank [] text) u gap refl is
