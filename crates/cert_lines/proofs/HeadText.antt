-- The lines of a head are the texts of what they say.
use Rattle.std.proofs.Common.{◌≡◌, ℕ, List, [], ◌∷◌, ◌++◌, refl, sym, ap, subst, ◌∙◌, append_assoc, Some}
use Rattle.std.proofs.lemmas.List.{append-nil, append_cancel_left}
use Rattle.cert_lines.specs.declared.places.Place.{Place}
use Rattle.cert_lines.specs.Lines.{Said, ◌>>=◌, line_text}
use Rattle.cert_lines.specs.Forms.{word_of, is_named, ranges_of}
use Rattle.cert_lines.specs.Heads.{Draft, put, suits, next_place, said_at, suiting, with_line}
use Rattle.cert_lines.specs.HeadTexts.{with_lines, CanSay, Says}
use Rattle.cert_lines.proofs.LineText.{some_is, bind_some, guard_some, line_takes, line_again}

-- one line that can stand
pub record Stands (d : Draft) (line : List ℕ) (after : Draft) : Type 0 where
  pub place : Place
  pub said : Said
  pub can : CanSay d place said
  pub written : line ≡ line_text (word_of place) (is_named place) said
  pub is : after ≡ put d place said

pub stands : (d : Draft) (line : List ℕ) (after : Draft) → with_line d line ≡ Some after → Stands d line after
unfolding with_line
stands d line after e =
    let a = bind_some (next_place d) (λ place. said_at d place line >>= λ s. suiting d place s) after e in
    let b = bind_some (said_at d a.0 line) (λ s. suiting d a.0 s) after a.2 in
    let g = guard_some (suits d a.0 b.0) (put d a.0 b.0) after b.2 in
    let l = line_takes (word_of a.0) (is_named a.0) (ranges_of d.shape.n a.0) line b.0 b.1 in
    record {
      place = a.0;
      said = b.0;
      can = record { next = a.1; fits = l.fits; suits = g.0 };
      written = l.written;
      is = sym g.1;
    }

again : (d : Draft) (place : Place) (s : Said) → CanSay d place s → with_line d (line_text (word_of place) (is_named place) s) ≡ Some (put d place s)
unfolding with_line
again d place s can =
    rw (can.next, line_again (word_of place) (is_named place) (ranges_of d.shape.n place) s can.fits, can.suits) refl

-- lines that can stand
record Taken (d after : Draft) (lines : List (List ℕ)) : Type 0 where
  said : List Said
  says : Says d said lines after
  added : after.said ≡ d.said ++ said

taken : (d after : Draft) (lines : List (List ℕ)) → with_lines d lines ≡ Some after → Taken d after lines
unfolding with_lines Says
taken d after [] e = record {
  said = [];
  says = (refl, sym (some_is d after e));
  added = ap (λ (x : Draft). x.said) (sym (some_is d after e)) ∙ sym (append-nil d.said);
}
taken d after (line ∷ lines) e =
    let a = bind_some (with_line d line) (λ x. with_lines x lines) after e in
    let s = stands d line a.0 a.1 in
    let r = taken (put d s.place s.said) after lines (subst (λ x. with_lines x lines ≡ Some after) s.is a.2) in
    record {
      said = s.said ∷ r.said;
      says = (s.place, lines, s.can, ap (λ (t : List ℕ). t ∷ lines) s.written, r.says);
      added = r.added ∙ append_assoc d.said (s.said ∷ []) r.said;
    }

pub lines_take : (d after : Draft) (lines : List (List ℕ)) → with_lines d lines ≡ Some after → (said : List Said) × Says d said lines after × (after.said ≡ d.said ++ said)
lines_take d after lines e = let t = taken d after lines e in (t.said, t.says, t.added)

pub lines_again : (d after : Draft) (said : List Said) (lines : List (List ℕ)) → Says d said lines after → with_lines d lines ≡ Some after
unfolding with_lines Says
lines_again d after [] lines f = rw (f.0, f.1) refl
lines_again d after (s ∷ said) lines f =
    rw (f.3, again d f.0 s f.2) (lines_again (put d f.0 s) after said f.1 f.4)

append_same : (xs ys zs : List Said) → xs ++ ys ≡ xs ++ zs → ys ≡ zs
append_same xs ys zs e = append_cancel_left xs ys zs e

says_adds : (d after : Draft) (said : List Said) (lines : List (List ℕ)) → Says d said lines after → after.said ≡ d.said ++ said
unfolding Says
says_adds d after [] lines f = ap (λ (x : Draft). x.said) f.1 ∙ sym (append-nil d.said)
says_adds d after (s ∷ said) lines f = says_adds (put d f.0 s) after said f.1 f.4 ∙ append_assoc d.said (s ∷ []) said

pub lines_one : (d after other : Draft) (said others : List Said) (lines : List (List ℕ)) → Says d said lines after → Says d others lines other → (said ≡ others) × (after ≡ other)
lines_one d after other said others lines f g =
    let same : after ≡ other = some_is after other (sym (lines_again d after said lines f) ∙ lines_again d other others lines g) in
    (append_same d.said said others (sym (says_adds d after said lines f) ∙ ap (λ (x : Draft). x.said) same ∙ says_adds d other others lines g), same)
