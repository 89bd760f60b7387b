-- The text of one number, and of one line, more.
use Rattle.std.proofs.Common.{◌≡◌, ℕ, ◌+◌, ◌<◌, ◌≤◌, List, [], ◌∷◌, ◌++◌, take, map, length, get_or, append_assoc, append-nil, ap, sym, ◌∙◌, refl, arith, inl, inr, Some, None, ℤ}
use Rattle.std.specs.List.{slice_get}
use Rattle.std.specs.Fmt.{signed_decimal}
use Rattle.std.proofs.lemmas.List.{take_more, map-append}
use Rattle.std.proofs.lemmas.Option.{get_or_from_slice_get, slice_get_within, slice_get_cases}
use Rattle.cert_lines.specs.declared.places.Place.{Place}
use Rattle.cert_lines.specs.declared.places.Shape.{Shape}
use Rattle.cert_lines.specs.Places.{places}
use Rattle.cert_lines.specs.Lines.{numbers_text}
use Rattle.cert_lines.specs.HeadTexts.{lines_text}
use Rattle.cert_lines.proofs.Exports.{few_lines, places_stand}

-- some numbers and then others
numbers-append : (xs ys : List ℤ) → numbers_text (xs ++ ys) ≡ numbers_text xs ++ numbers_text ys
numbers-append [] ys = refl
numbers-append (x ∷ xs) ys =
    ap (λ (t : List ℕ). 32 ∷ signed_decimal x ++ t) (numbers-append xs ys)
    ∙ ap (λ (t : List ℕ). 32 ∷ t) (sym (append_assoc (signed_decimal x) (numbers_text xs) (numbers_text ys)))

-- the first k and then one more
pub numbers-more : (xs : List ℤ) (k : ℕ) (d : ℤ) → k < length xs
    → numbers_text (take k xs) ++ (32 ∷ signed_decimal (get_or xs k d)) ≡ numbers_text (take (k + 1) xs)
numbers-more xs k d h =
    sym (ap numbers_text (take_more xs k d h) ∙ numbers-append (take k xs) (get_or xs k d ∷ [])
    ∙ ap (λ (t : List ℕ). numbers_text (take k xs) ++ (32 ∷ t)) (append-nil (signed_decimal (get_or xs k d))))

-- some lines and then others
pub lines-append : (xs ys : List (List ℕ)) → lines_text (xs ++ ys) ≡ lines_text xs ++ lines_text ys
unfolding lines_text
lines-append [] ys = refl
lines-append (x ∷ xs) ys =
    ap (λ (t : List ℕ). x ++ 10 ∷ t) (lines-append xs ys) ∙ sym (append_assoc x (10 ∷ lines_text xs) (lines_text ys))

-- the first k lines and then one more
pub lines-next : (f : Place → List ℕ) (ps : List Place) (k : ℕ) (p : Place) → slice_get ps k ≡ Some p
    → lines_text (map f (take k ps)) ++ (f p ++ 10 ∷ []) ≡ lines_text (map f (take (k + 1) ps))
unfolding lines_text
lines-next f ps k p e =
    let more : take (k + 1) ps ≡ take k ps ++ p ∷ [] =
    take_more ps k p (slice_get_within ps k p e) ∙ ap (λ (q : Place). take k ps ++ q ∷ []) (get_or_from_slice_get ps k p p e) in
    sym (ap (λ (qs : List Place). lines_text (map f qs)) more ∙ ap lines_text (map-append f (take k ps) (p ∷ [])) ∙ lines-append (map f (take k ps)) (f p ∷ []))

-- where no line stands, all lines are in front
pub all_lines : (ps : List Place) (k : ℕ) → slice_get ps k ≡ None → length ps ≤ k
all_lines ps k e = elim (slice_get_cases ps k).1 [
  | inl h ↦ absurd (none h.0 (sym h.2 ∙ e))
  | inr h ↦ h.0
]
  where
    none : (p : Place) → Some p ≡ None → ⊥
    none p e = cc

-- a head has at most 37 lines
pub few_places : (s : Shape) (k : ℕ) → s.n ≤ 4 → s.phases ≤ 4 → 37 ≤ k → length (places s) ≤ k
few_places s k n phases long = elim (slice_get_cases (places s) 37).1 [
  | inl h ↦ absurd (omega (arith, few_lines s 37 h.0 n phases (places_stand s n 37 ∙ h.2)))
  | inr h ↦ omega (arith, h.0, long)
]
