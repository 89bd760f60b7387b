-- A head is read at the front of a text exactly where its lines stand there.
use Rattle.std.proofs.Common.{◌≡◌, ℕ, List, [], ◌∷◌, ◌++◌, refl, sym, ap, subst, ◌∙◌, Bool, true, false, not, if◌then◌else◌, append_assoc, Option, Some, None}
use Rattle.std.specs.Prelude.{◌==◌}
use Rattle.std.specs.List.{list_all}
use Rattle.std.proofs.lemmas.Bool.{and_parts, eqb-true}
use Rattle.std.proofs.lemmas.List.{append-nil}
use Rattle.cert_lines.specs.declared.places.Place.{Place}
use Rattle.cert_lines.specs.Lines.{◌>>=◌}
use Rattle.cert_lines.specs.Places.{place_at}
use Rattle.cert_lines.specs.Heads.{Draft, blank, next_place, said_at, suiting, with_line}
use Rattle.cert_lines.specs.HeadTexts.{with_lines, lines_text, Whole, after_line, after_next, head_end}
use Rattle.cert_lines.specs.Laws.{HeadsAreRead}
use Rattle.cert_lines.specs.Laws.{is_one_line}
use Rattle.cert_lines.proofs.LineText.{some_is, bind_some}
use Rattle.cert_lines.proofs.OneLine.{is_inner, is_line}

-- ---- from the lines
not_newline : (c : ℕ) → is_inner c ≡ true → (c == 10) ≡ false
not_newline c e = by_case (c == 10) e
  where
    by_case : (b : Bool) → not b ≡ true → b ≡ false
    by_case false e = refl
    by_case true e = absurd cc

keeps : (d : Draft) (so_far line rest : List ℕ) → is_one_line line ≡ true
    → head_end d so_far (line ++ 10 ∷ rest) ≡ after_line d (with_line d (so_far ++ line)) (λ x. head_end x [] rest) rest
unfolding head_end
keeps d so_far [] rest one = rw (append-nil so_far) refl
keeps d so_far (c ∷ line) rest one =
    let p = and_parts (is_inner c) (list_all is_inner line) one in
    rw (not_newline c p.0) (keeps d (so_far ++ c ∷ []) line rest p.1 ∙ rw (append_assoc so_far (c ∷ []) line) refl)

wants : (d : Draft) (line : List ℕ) (after : Draft) → with_line d line ≡ Some after → (p : Place) × (next_place d ≡ Some p)
unfolding with_line
wants d line after e =
    let a = bind_some (next_place d) (λ place. said_at d place line >>= λ s. suiting d place s) after e in
    (a.0, a.1)

back : (d after : Draft) (line : List ℕ) (lines : List (List ℕ)) (rest : List ℕ) → with_lines d (line ∷ lines) ≡ Some after → next_place after ≡ None
    → head_end d [] (lines_text (line ∷ lines) ++ rest) ≡ Whole after rest
unfolding with_lines lines_text
back d after line [] rest e whole =
    let a = bind_some (with_line d line) (λ x. with_lines x []) after e in
    let same : a.0 ≡ after = some_is a.0 after a.2 in
    let h : with_line d line ≡ Some after = subst (λ (x : Draft). with_line d line ≡ Some x) same a.1 in
    let l = is_line d line after h in
    ap (head_end d []) (append_assoc line (10 ∷ []) rest) ∙ keeps d [] line rest l.unbroken ∙ rw (h, whole) refl
back d after line (second ∷ lines) rest e whole =
    let a = bind_some (with_line d line) (λ x. with_lines x (second ∷ lines)) after e in
    let b = bind_some (with_line a.0 second) (λ x. with_lines x lines) after a.2 in
    let w = wants a.0 second b.0 b.1 in
    let l = is_line d line a.0 a.1 in
    ap (head_end d []) (append_assoc line (10 ∷ lines_text (second ∷ lines)) rest) ∙ keeps d [] line (lines_text (second ∷ lines) ++ rest) l.unbroken
    ∙ rw (a.1, w.1) (back a.0 after second lines rest a.2 whole)

-- ---- to the lines
record Taken (d : Draft) (line text : List ℕ) (after : Draft) (rest : List ℕ) : Type 0 where
  more : List ℕ
  lines : List (List ℕ)
  parts : text ≡ more ++ 10 ∷ (lines_text lines ++ rest)
  reads : with_lines d ((line ++ more) ∷ lines) ≡ Some after
  whole : next_place after ≡ None

whole_is : (x y : Draft) (u v : List ℕ) → Whole x u ≡ Whole y v → (x ≡ y) × (u ≡ v)
whole_is x y u v e = (cc, cc)

taken : (d : Draft) (line text : List ℕ) (after : Draft) (rest : List ℕ) → head_end d line text ≡ Whole after rest → Taken d line text after rest
unfolding head_end with_lines lines_text
taken d line [] after rest e = absurd cc
taken d line (b ∷ text) after rest e = by_byte (λ x l f. taken x l text after rest f) (b == 10) (with_line d line) refl refl e
  where
    by_next : ((x : Draft) (l : List ℕ) → head_end x l text ≡ Whole after rest → Taken x l text after rest) → (x : Draft) (o : Option Place) → (b == 10) ≡ true → with_line d line ≡ Some x → next_place x ≡ o
        → after_next x o (head_end x [] text) text ≡ Whole after rest → Taken d line (b ∷ text) after rest
    by_next again x (Some at) t h k e =
        let f = again x [] e in
        record {
          more = [];
          lines = f.more ∷ f.lines;
          parts = ap (λ (c : ℕ). c ∷ text) (eqb-true b 10 t) ∙ ap (λ (u : List ℕ). 10 ∷ u) (f.parts ∙ sym (append_assoc f.more (10 ∷ lines_text f.lines) rest));
          reads = rw (append-nil line, h) f.reads;
          whole = f.whole;
        }
    by_next again x None t h k e =
        let w = whole_is x after text rest e in
        record {
          more = [];
          lines = [];
          parts = ap (λ (c : ℕ). c ∷ text) (eqb-true b 10 t) ∙ ap (λ (u : List ℕ). 10 ∷ u) w.1;
          reads = rw (append-nil line, h) (ap Some w.0);
          whole = subst (λ (y : Draft). next_place y ≡ None) w.0 k;
        }

    by_byte : ((x : Draft) (l : List ℕ) → head_end x l text ≡ Whole after rest → Taken x l text after rest) → (t : Bool) (o : Option Draft) → (b == 10) ≡ t → with_line d line ≡ o
        → (if t then after_line d o (λ x. head_end x [] text) text else head_end d (line ++ b ∷ []) text) ≡ Whole after rest → Taken d line (b ∷ text) after rest
    by_byte again true None t h e = absurd cc
    by_byte again true (Some x) t h e = by_next again x (next_place x) t h refl e
    by_byte again false o t h e =
        let f = again d (line ++ b ∷ []) e in
        record {
          more = b ∷ f.more;
          lines = f.lines;
          parts = ap (λ (u : List ℕ). b ∷ u) f.parts;
          reads = subst (λ (l : List ℕ). with_lines d (l ∷ f.lines) ≡ Some after) (append_assoc line (b ∷ []) f.more) f.reads;
          whole = f.whole;
        }

-- a head has a line
has_line : (lines : List (List ℕ)) (head : Draft) → with_lines blank lines ≡ Some head → next_place head ≡ None → (line : List ℕ) × (others : List (List ℕ)) × (lines ≡ line ∷ others)
unfolding with_lines place_at
has_line [] head e whole =
    let same : blank ≡ head = some_is blank head e in
    let none : next_place blank ≡ None = subst (λ (d : Draft). next_place d ≡ None) (sym same) whole in
    absurd cc
has_line (line ∷ others) head e whole = (line, others, refl)

pub heads_are_read : HeadsAreRead
unfolding lines_text
heads_are_read = (
  λ text d rest e. let t = taken blank [] text d rest e in
      (t.more ∷ t.lines, t.reads, t.whole, t.parts ∙ sym (append_assoc t.more (10 ∷ lines_text t.lines) rest)),
  λ lines d rest e whole.
      let l = has_line lines d e whole in
      subst (λ (ls : List (List ℕ)). head_end blank [] (lines_text ls ++ rest) ≡ Whole d rest) (sym l.2)
      (back blank d l.0 l.1 rest (subst (λ (ls : List (List ℕ)). with_lines blank ls ≡ Some d) l.2 e) whole),
)
