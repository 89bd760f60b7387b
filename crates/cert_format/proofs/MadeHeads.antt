-- A head that is made of the lines of a whole draft is theirs.
use Rattle.std.proofs.Common.{◌≡◌, ◌<◌, ◌-◌, ◌^◌, ◌∙◌, ℕ, zero, suc, ℤ, pos, neg_ℤ, List, [], ◌∷◌, length, get_or, map, take, ap, sym, refl, subst, arith, Bool, true, false, Some, None, inl, inr}
use Rattle.std.specs.Prelude.{if◌then◌else◌, ◌==◌, ◌&&◌, ◌||◌, not, slice_index, unsigned_abs, All}
use Rattle.std.specs.List.{list_all, list_any, slice_get}
use Rattle.std.specs.Str.{bytes_eq}
use Rattle.std.proofs.lemmas.Bool.{and_parts, cases_lt}
use Rattle.std.proofs.lemmas.List.{get_or-take, length-append, length-take}
use Rattle.std.proofs.lemmas.List.FromFn.{length-map-range_with_len}
use Rattle.log_laws.specs.Sums.{list_below, sum_below}
use Rattle.log_laws.proofs.Exports.{length-list_below, get_or-list_below, abs_within}
use Rattle.case_types.specs.declared.phases.Phase.{Phase}
use Rattle.case_types.specs.declared.cases.Edition.TheVariants.{Y1976, Y1978}
use Rattle.case_words.specs.Names.{is_name_length, are_different}
use Rattle.case_words.proofs.Exports.{name-long}
use Rattle.cert_lines.specs.declared.places.Place.{Place}
use Rattle.cert_lines.specs.declared.places.Place.TheVariants.{Component, Edition as EditionLine, Upper, Low, Gap}
use Rattle.cert_lines.specs.declared.places.Shape.{Shape}
use Rattle.cert_lines.specs.Places.{places}
use Rattle.cert_lines.specs.Lines.{Said}
use Rattle.cert_lines.specs.Heads.{Draft}
use Rattle.cert_lines.specs.Indices.{index_of, said_on, number_on}
use Rattle.cert_lines.proofs.Exports.{few, lines_fit, places_are_found, places_stand}
use Rattle.cert_format.specs.declared.heads.Head.{Head}
use Rattle.cert_format.specs.Heads.{says, shape_of, name_of_component, IsVersionOf}
use Rattle.cert_format.specs.Reading.{IsHeadOf}
use Rattle.cert_format.specs.Building.{IsWhole, bounded, natural, phase_on, edition_on}
use Rattle.cert_format.proofs.Held.{held_between}
use Rattle.cert_format.proofs.Whole.{is_line, is_counted}
use Rattle.cert_format.proofs.SplitFacts.{all_some}
use Rattle.cert_format.proofs.Says.{IsMadeOf, tells}

abbrev nothing : Said
nothing = record { name = []; numbers = [] }

-- ---- all lines
map_is : (f : Place → Said) (ps : List Place) (xs : List Said) → length xs ≡ length ps → ((i : ℕ) (p : Place) → slice_get ps i ≡ Some p → f p ≡ get_or xs i nothing) → xs ≡ map f ps
map_is f [] [] e h = refl
map_is f [] (x ∷ xs) e h = absurd (omega (arith, e))
map_is f (p ∷ ps) [] e h = absurd (omega (arith, e))
map_is f (p ∷ ps) (x ∷ xs) e h = rw (h 0 p refl, ← map_is f ps xs (omega (arith, e)) (λ i q g. h (suc i) q g)) refl

-- as many items as there are places
as_many : (ps : List Place) (n : ℕ) → slice_get ps n ≡ None → ((i : ℕ) → i < n → (p : Place) × (slice_get ps i ≡ Some p)) → n ≡ length ps
as_many [] zero e h = refl
as_many [] (suc n) e h = absurd (none (h 0 (omega arith)).0 (h 0 (omega arith)).1)
  where
    none : (p : Place) → None ≡ Some p → ⊥
    none p e = cc
as_many (p ∷ ps) zero e h = absurd cc
as_many (p ∷ ps) (suc n) e h = ap (λ (k : ℕ). suc k) (as_many ps n e (λ i l. h (suc i) (omega (arith, l))))

all_said : (d : Draft) → IsWhole d → (h : Head) → IsMadeOf d h → d.said ≡ map (says h) (places d.shape)
all_said d w h m =
    let lines = w.read.0 in
    let e = w.read.1 in
    let small = few d lines e in
    let count = as_many (places d.shape) (length d.said) (sym (places_stand d.shape small (length d.said)) ∙ w.ended)
    (λ i l. let f = lines_fit d lines e i l in (f.place, sym (places_stand d.shape small i) ∙ f.stands)) in
    map_is (says h) (places d.shape) d.said count (λ i p g.
    let found = places_are_found d.shape small i p (places_stand d.shape small i ∙ g) in
    tells d w h m p found.0 ∙ ap (λ (k : ℕ). get_or d.said k nothing) found.1)

same_shape : (d : Draft) → IsWhole d → (h : Head) → IsMadeOf d h → d.shape ≡ shape_of h
same_shape d w h m =
    let c = is_counted d w in
    let phases : length h.split.phases.items ≡ d.shape.phases = ap (λ (fs : List Phase). length fs) m.phases ∙ length-map-range_with_len (phase_on d) 0 d.shape.phases in
    shapes d.shape h.version h.params.case.n (length h.split.phases.items) h.letters (sym m.version) (sym (m.is_case.count ∙ c.counted)) (sym phases) (sym (m.letters ∙ c.lettered))
  where
    shapes : (s : Shape) (version n phases letters : ℕ) → s.version ≡ version → s.n ≡ n → s.phases ≡ phases → s.letters ≡ letters
        → s ≡ record { version = version; n = n; phases = phases; letters = letters }
    shapes s version n phases letters a b c e = rw (← a, ← b, ← c, ← e) refl

-- ---- the names
name_is : (d : Draft) → IsWhole d → (h : Head) → IsMadeOf d h → (i : ℕ) → i < d.shape.n → name_of_component h.params.case i ≡ (said_on d (Component i)).name
unfolding says
name_is d w h m i l = ap (λ (s : Said). s.name) (tells d w h m (Component i) l)

all_from : (p : List ℕ → Bool) (xs : List (List ℕ)) → ((i : ℕ) → i < length xs → p (get_or xs i []) ≡ true) → list_all p xs ≡ true
all_from p [] h = refl
all_from p (x ∷ xs) h = rw (h 0 (omega arith), all_from p xs (λ i l. h (suc i) (omega (arith, l)))) refl

none_from : (p : List ℕ → Bool) (xs : List (List ℕ)) → ((i : ℕ) → i < length xs → p (get_or xs i []) ≡ false) → list_any p xs ≡ false
none_from p [] h = refl
none_from p (x ∷ xs) h = rw (h 0 (omega arith), none_from p xs (λ i l. h (suc i) (omega (arith, l)))) refl

different_from : (xs : List (List ℕ)) → ((i j : ℕ) → i < j → j < length xs → bytes_eq (get_or xs i []) (get_or xs j []) ≡ false) → are_different xs ≡ true
unfolding are_different
different_from [] h = refl
different_from (x ∷ xs) h =
    rw (none_from (bytes_eq x) xs (λ j l. h 0 (suc j) (omega arith) (omega (arith, l))), different_from xs (λ i j g l. h (suc i) (suc j) (omega (arith, g)) (omega (arith, l)))) refl

neither : (a b : Bool) → (a || b) ≡ false → (a ≡ false) × (b ≡ false)
neither true b e = absurd cc
neither false b e = (refl, e)

none_at : (p : Said → Bool) (xs : List Said) (i : ℕ) → list_any p xs ≡ false → i < length xs → p (get_or xs i nothing) ≡ false
none_at p [] i e l = absurd (omega (arith, l))
none_at p (x ∷ xs) zero e l = (neither (p x) (list_any p xs) e).0
none_at p (x ∷ xs) (suc i) e l = none_at p xs i (neither (p x) (list_any p xs) e).1 (omega (arith, l))

is_false : (b : Bool) → not b ≡ true → b ≡ false
is_false false e = refl
is_false true e = absurd cc

names_differ : (d : Draft) → IsWhole d → (i j : ℕ) → i < j → j < d.shape.n → bytes_eq (said_on d (Component i)).name (said_on d (Component j)).name ≡ false
unfolding index_of
names_differ d w i j g l =
    let s : Said = said_on d (Component j) in
    let at : ℕ = index_of d.shape (Component i) in
    let end : ℕ = index_of d.shape (Component j) in
    let here = is_line d w (Component j) l in
    let p : Said → Bool = λ e. bytes_eq e.name s.name in
    let none : list_any p here.suited.before.said ≡ false = is_false (list_any p here.suited.before.said) (and_parts (not (list_any p here.suited.before.said)) _ here.suited.suits).0 in
    let none_taken : list_any p (take end d.said) ≡ false = ap (list_any p) (sym here.suited.said) ∙ none in
    let inside : at < end = omega (arith, g) in
    let within : at < length (take end d.said) = omega (arith, inside, here.inside, length-take end d.said) in
    ap p (sym (get_or-take end d.said at nothing inside)) ∙ none_at p (take end d.said) at none_taken within

-- ---- a head
small : (z y : ℤ) → z ≡ bounded (2 ^ 80 - 1) y → unsigned_abs z < 2 ^ 80
small z y e =
    let h = held_between (neg_ℤ (pos (2 ^ 80 - 1))) (pos (2 ^ 80 - 1)) y (omega arith) in
    let size = abs_within (bounded (2 ^ 80 - 1) y) (2 ^ 80 - 1) h.above h.below in
    omega (arith, size, ap (λ (x : ℤ). unsigned_abs x) e)

version_of : (d : Draft) → IsWhole d → IsVersionOf d.shape.version (edition_on d)
version_of d w =
    let c = is_counted d w in
    elim (cases_lt d.shape.version 2) [
      | inl l ↦ let one : d.shape.version ≡ 1 = omega (arith, l, c.edition) in
          inl (one, ap (λ (v : ℕ). if v == 2 && natural 76 78 (number_on d EditionLine 0) == 78 then Y1978 else Y1976) one)
      | inr l ↦ inr (omega (arith, l, c.editions))
    ]

pub is_head_of : (d : Draft) → IsWhole d → (h : Head) → IsMadeOf d h → IsHeadOf d h
is_head_of d w h m =
    let c = is_counted d w in
    let n : ℕ = h.params.case.n in
    let count : n ≡ d.shape.n = m.is_case.count ∙ c.counted in
    let names : List (List ℕ) = list_below n (name_of_component h.params.case) in
    let long : length names ≡ n = length-list_below n (name_of_component h.params.case) in
    let name : (i : ℕ) → i < length names → get_or names i [] ≡ (said_on d (Component i)).name =
    λ i l. get_or-list_below n (name_of_component h.params.case) [] i (omega (arith, l, long)) ∙ name_is d w h m i (omega (arith, l, long, count)) in
    let shape = same_shape d w h m in
    record {
      head = record {
        version = subst (λ (v : ℕ). IsVersionOf v h.params.case.edition) (sym m.version) (subst (IsVersionOf d.shape.version) (sym m.is_case.edition) (version_of d w));
        named = all_from is_name_length names (λ i l.
            let here = is_line d w (Component i) (omega (arith, l, long, count)) in
            ap is_name_length (name i l) ∙ name-long (said_on d (Component i)).name (said_on d (Component i)).name here.fits.name);
        differ = different_from names (λ i j g l.
            ap (λ (x : List ℕ). bytes_eq x (get_or names j [])) (name i (omega (arith, g, l))) ∙ ap (bytes_eq (said_on d (Component i)).name) (name j l)
            ∙ names_differ d w i j g (omega (arith, l, long, count)));
        phases = subst (λ (k : ℕ). All (λ (f : Phase). 0 < sum_below k (slice_index f.parts)) h.split.phases.items) (sym count)
            (subst (λ (fs : List Phase). All (λ (f : Phase). 0 < sum_below d.shape.n (slice_index f.parts)) fs) (sym m.phases) (all_some d w));
        u = small h.u (number_on d Upper 0) m.u;
        low = small h.low (number_on d Low 0) m.low;
        gap = small h.gap (number_on d Gap 0) m.gap;
        some = omega (arith, m.letters, c.lettered, c.letter);
        few = omega (arith, m.letters, c.lettered, c.limit);
      };
      shape = shape;
      said = all_said d w h m ∙ ap (λ (s : Shape). map (says h) (places s)) shape;
    }
