-- Each line that was read suited the lines before it, and what it says of the shape stays.
use Rattle.std.proofs.Common.{◌≡◌, ℕ, zero, suc, ◌+◌, ◌<◌, ◌≤◌, List, [], ◌∷◌, ◌++◌, length, take, get_or, refl, sym, ap, subst, ◌∙◌, arith, append_assoc, Bool, true, false, Option, Some, None, pos, ℤ}
use Rattle.std.specs.Prelude.{nat_le, ◌&&◌, int_le, unsigned_abs, if◌then◌else◌, ◌≤ℤ◌}
use Rattle.std.specs.List.{slice_get}
use Rattle.std.proofs.lemmas.Bool.{leb-true, and_parts}
use Rattle.std.proofs.lemmas.List.{length-append, append-nil}
use Rattle.log_laws.specs.Sums.{sum_below}
use Rattle.log_laws.proofs.Exports.{sum_below-same, sum_below-more, sum_below-fewer}
use Rattle.cert_lines.specs.declared.places.Place.{Place}
use Rattle.cert_lines.specs.declared.places.Place.TheVariants.{Version, Temperature, Pressure, Count, Edition, Component, Interaction, RootTwo, LogE, TemperatureRoot, PressureRoot, Split, Phase, Upper, Plane, Low, Gap, Letters}
use Rattle.cert_lines.specs.declared.places.Shape.{Shape}
use Rattle.cert_lines.specs.Lines.{Said}
use Rattle.cert_lines.specs.Places.{place_at, places}
use Rattle.cert_lines.specs.Indices.{index_of, components_start, roots_start}
use Rattle.cert_lines.specs.Heads.{Draft, blank, put, reshaped, part_in, suits, next_place, number_in, up_to}
use Rattle.cert_lines.specs.HeadTexts.{Says, with_lines}
use Rattle.cert_lines.specs.Laws.{IsStated, LinesSuit, FeedFits, WholeHeadsHaveAll}
use Rattle.cert_lines.proofs.HeadText.{lines_take}
use Rattle.cert_lines.proofs.LineText.{some_is, int_le_out}
use Rattle.cert_lines.proofs.LinePlaces.{places_are_found, lines_are_found}
use Rattle.cert_lines.proofs.Listed.{places_stand}
use Rattle.cert_lines.proofs.Shapes.{shape_kept}

-- ---- what one line leaves of the shape
within : (limit : ℕ) (z : ℤ) → pos 0 ≤ℤ z → z ≤ℤ pos limit → unsigned_abs z ≤ limit
within limit z low high = grind arith

up_to-small : (limit : ℕ) (z : ℤ) → up_to limit z ≤ limit
up_to-small limit z = by_test (int_le (pos 0) z && int_le z (pos limit)) refl
  where
    by_test : (b : Bool) → (int_le (pos 0) z && int_le z (pos limit)) ≡ b → (if b then unsigned_abs z else 0) ≤ limit
    by_test true e =
        let parts = and_parts (int_le (pos 0) z) (int_le z (pos limit)) e in
        within limit z (int_le_out (pos 0) z parts.0) (int_le_out z (pos limit) parts.1)
    by_test false e = omega arith

record Leaves (p : Place) (s t : Shape) : Type 0 where
  version : (p ≡ Version → ⊥) → t.version ≡ s.version
  count : (p ≡ Count → ⊥) → t.n ≡ s.n
  phases : (p ≡ Split → ⊥) → t.phases ≡ s.phases
  letters : (p ≡ Letters → ⊥) → t.letters ≡ s.letters
  few : s.n ≤ 4 → t.n ≤ 4

all_left : (p : Place) (s : Shape) → Leaves p s s
all_left p s = record { version = λ e. refl; count = λ e. refl; phases = λ e. refl; letters = λ e. refl; few = λ h. h }

leaves : (p : Place) (s : Shape) (x : Said) → Leaves p s (reshaped s p x)
leaves Version s x = record { version = λ e. absurd (e refl); count = λ e. refl; phases = λ e. refl; letters = λ e. refl; few = λ h. h }
leaves Count s x = record { version = λ e. refl; count = λ e. absurd (e refl); phases = λ e. refl; letters = λ e. refl; few = λ h. up_to-small 4 (number_in x 0) }
leaves Split s x = record { version = λ e. refl; count = λ e. refl; phases = λ e. absurd (e refl); letters = λ e. refl; few = λ h. h }
leaves Letters s x = record { version = λ e. refl; count = λ e. refl; phases = λ e. refl; letters = λ e. absurd (e refl); few = λ h. h }
leaves Temperature s x = all_left Temperature s
leaves Pressure s x = all_left Pressure s
leaves Edition s x = all_left Edition s
leaves (Component i) s x = all_left (Component i) s
leaves (Interaction i j) s x = all_left (Interaction i j) s
leaves RootTwo s x = all_left RootTwo s
leaves LogE s x = all_left LogE s
leaves (TemperatureRoot i) s x = all_left (TemperatureRoot i) s
leaves (PressureRoot i j) s x = all_left (PressureRoot i j) s
leaves (Phase k) s x = all_left (Phase k) s
leaves Upper s x = all_left Upper s
leaves Plane s x = all_left Plane s
leaves Low s x = all_left Low s
leaves Gap s x = all_left Gap s

few_components : (d after : Draft) (said : List Said) (lines : List (List ℕ)) → Says d said lines after → d.shape.n ≤ 4 → after.shape.n ≤ 4
unfolding Says
few_components d after [] lines f h = subst (λ (x : Draft). x.shape.n ≤ 4) (sym f.1) h
few_components d after (s ∷ said) lines f h = few_components (put d f.0 s) after said f.1 f.4 ((leaves f.0 d.shape s).few h)

pub few : (d : Draft) (lines : List (List ℕ)) → with_lines blank lines ≡ Some d → d.shape.n ≤ 4
few d lines e =
    let t = lines_take blank d lines e in
    few_components blank d t.0 lines t.1 (omega arith)

-- ---- what a line says of the shape
stated_first : (s : Shape) (p : Place) (x : Said) → IsStated (reshaped s p x) p x
stated_first s p x = record {
  version = λ e. ap (λ (q : Place). (reshaped s q x).version) e;
  count = λ e. ap (λ (q : Place). (reshaped s q x).n) e;
  phases = λ e. ap (λ (q : Place). (reshaped s q x).phases) e;
  letters = λ e. ap (λ (q : Place). (reshaped s q x).letters) e;
}

stated_next : (s : Shape) (p q : Place) (x y : Said) → (p ≡ q → ⊥) → IsStated s q x → IsStated (reshaped s p y) q x
stated_next s p q x y differ f =
    let l = leaves p s y in
    record {
      version = λ e. l.version (λ g. differ (g ∙ sym e)) ∙ f.version e;
      count = λ e. l.count (λ g. differ (g ∙ sym e)) ∙ f.count e;
      phases = λ e. l.phases (λ g. differ (g ∙ sym e)) ∙ f.phases e;
      letters = λ e. l.letters (λ g. differ (g ∙ sym e)) ∙ f.letters e;
    }

-- the next line stands where it stands in the end
stands : (d after : Draft) (s : Said) (said : List Said) (lines : List (List ℕ)) (f : Says d (s ∷ said) lines after) → place_at after.shape (length d.said) ≡ next_place d
stands d after s said lines f = (shape_kept d after (s ∷ said) lines f).places (length d.said) (omega arith)

stated_later : (d after : Draft) (said : List Said) (lines : List (List ℕ)) → Says d said lines after → after.shape.n ≤ 4
    → (k : ℕ) (q : Place) (x : Said) → k < length d.said → place_at after.shape k ≡ Some q → IsStated d.shape q x → IsStated after.shape q x
unfolding Says
stated_later d after [] lines f small k q x h e g = subst (λ (y : Draft). IsStated y.shape q x) (sym f.1) g
stated_later d after (s ∷ said) lines f small k q x h e g =
    let here : place_at after.shape (length d.said) ≡ Some f.0 = stands d after s said lines f ∙ f.2.next in
    let mine = (places_are_found after.shape small k q e).1 in
    let its = (places_are_found after.shape small (length d.said) f.0 here).1 in
    let differ : f.0 ≡ q → ⊥ = λ same. omega (arith, h, sym its ∙ ap (index_of after.shape) same ∙ mine) in
    stated_later (put d f.0 s) after said f.1 f.4 small k q x (omega (arith, h, length-append d.said (s ∷ []))) e (stated_next d.shape f.0 q x s differ g)

-- ---- each line
record Suited (after : Draft) (front said : List Said) (which : Place) (x : Said) : Type 0 where
  before : Draft
  so_far : before.said ≡ front ++ said
  suited : suits before which x ≡ true
  stated : IsStated after.shape which x

abbrev nothing : Said
nothing = record { name = []; numbers = [] }

suited : (d after : Draft) (said : List Said) (lines : List (List ℕ)) → Says d said lines after → after.shape.n ≤ 4
    → (i : ℕ) (which : Place) → i < length said → place_at after.shape (length d.said + i) ≡ Some which → Suited after d.said (take i said) which (get_or said i nothing)
unfolding Says
suited d after [] lines f small i which h e = absurd (omega (arith, h))
suited d after (s ∷ said) lines f small zero which h e =
    let none : length d.said + 0 ≡ length d.said = omega arith in
    let same : f.0 ≡ which = some_is f.0 which (sym f.2.next ∙ sym (stands d after s said lines f) ∙ ap (place_at after.shape) (sym none) ∙ e) in
    let here : place_at after.shape (length d.said) ≡ Some f.0 = stands d after s said lines f ∙ f.2.next in
    let stated = stated_later (put d f.0 s) after said f.1 f.4 small (length d.said) f.0 s (omega (arith, length-append d.said (s ∷ []))) here (stated_first d.shape f.0 s) in
    subst (λ (p : Place). Suited after d.said [] p s) same (record { before = d; so_far = sym (append-nil d.said); suited = f.2.suits; stated = stated })
suited d after (s ∷ said) lines f small (suc i) which h e =
    let at : length (d.said ++ s ∷ []) + i ≡ length d.said + suc i = omega (arith, length-append d.said (s ∷ [])) in
    let r = suited (put d f.0 s) after said f.1 f.4 small i which (omega (arith, h)) (ap (place_at after.shape) at ∙ e) in
    record { before = r.before; so_far = r.so_far ∙ append_assoc d.said (s ∷ []) (take i said); suited = r.suited; stated = r.stated }

pub lines_suit : LinesSuit
lines_suit d lines which i e h at =
    let t = lines_take blank d lines e in
    let all : d.said ≡ t.0 = t.2 in
    let index : 0 + i ≡ i = omega arith in
    let r = suited blank d t.0 lines t.1 (few d lines e) i which (subst (λ (l : List Said). i < length l) all h) (ap (place_at d.shape) index ∙ at) in
    let x_is : get_or d.said i nothing ≡ get_or t.0 i nothing = ap (λ (l : List Said). get_or l i nothing) all in
    record {
      before = r.before;
      said = r.so_far ∙ ap (take i) (sym all);
      suits = ap (suits r.before which) x_is ∙ r.suited;
      stated = subst (IsStated d.shape which) (sym x_is) r.stated;
    }

-- ---- the feed
abbrev by_place : Option Place → Said → ℕ
by_place (Some p) x = part_in p x
by_place None x = 0

-- the part of the feed of the line at an index
abbrev part_at : Shape → ℕ → Said → ℕ
part_at s k x = by_place (place_at s k) x

-- a line leaves room for the feed
room : (d : Draft) (p : Place) (s : Said) → suits d p s ≡ true → d.fed ≤ 1048576 → d.fed + part_in p s ≤ 1048576
room d (Component i) s e h = leb-true (d.fed + up_to 1048576 (number_in s 3)) 1048576 (and_parts _ (nat_le (d.fed + up_to 1048576 (number_in s 3)) 1048576) e).1
room d Version s e h = omega (arith, h)
room d Temperature s e h = omega (arith, h)
room d Pressure s e h = omega (arith, h)
room d Count s e h = omega (arith, h)
room d Edition s e h = omega (arith, h)
room d (Interaction i j) s e h = omega (arith, h)
room d RootTwo s e h = omega (arith, h)
room d LogE s e h = omega (arith, h)
room d (TemperatureRoot i) s e h = omega (arith, h)
room d (PressureRoot i j) s e h = omega (arith, h)
room d Split s e h = omega (arith, h)
room d (Phase k) s e h = omega (arith, h)
room d Upper s e h = omega (arith, h)
room d Plane s e h = omega (arith, h)
room d Low s e h = omega (arith, h)
room d Gap s e h = omega (arith, h)
room d Letters s e h = omega (arith, h)

fed_small : (d after : Draft) (said : List Said) (lines : List (List ℕ)) → Says d said lines after → d.fed ≤ 1048576 → after.fed ≤ 1048576
unfolding Says
fed_small d after [] lines f h = subst (λ (x : Draft). x.fed ≤ 1048576) (sym f.1) h
fed_small d after (s ∷ said) lines f h = fed_small (put d f.0 s) after said f.1 f.4 (room d f.0 s f.2.suits h)

sum_front : (n : ℕ) (f : ℕ → ℕ) → sum_below (suc n) f ≡ f 0 + sum_below n (λ i. f (suc i))
sum_front zero f = omega arith
sum_front (suc n) f = omega (arith, sum_front n f)

sum_part : (a n m : ℕ) (f : ℕ → ℕ) → a + n ≤ m → sum_below n (λ i. f (a + i)) ≤ sum_below m f
sum_part a n m f h = omega (arith, joined n, sum_below-fewer (a + n) m f h)
  where
    joined : (k : ℕ) → sum_below (a + k) f ≡ sum_below a f + sum_below k (λ i. f (a + i))
    joined zero =
        let none : a + 0 ≡ a = omega arith in
        omega (arith, ap (λ (i : ℕ). sum_below i f) none)
    joined (suc k) =
        let next : a + suc k ≡ a + k + 1 = omega arith in
        omega (arith, ap (λ (i : ℕ). sum_below i f) next, sum_below-more (a + k) f, joined k)

fed_is : (d after : Draft) (said : List Said) (lines : List (List ℕ)) → Says d said lines after
    → after.fed ≡ d.fed + sum_below (length said) (λ i. part_at after.shape (length d.said + i) (get_or said i nothing))
unfolding Says
fed_is d after [] lines f =
    let none : d.fed + 0 ≡ d.fed = omega arith in
    ap (λ (x : Draft). x.fed) f.1 ∙ sym none
fed_is d after (s ∷ said) lines f =
    let n : ℕ = length said in
    let here : place_at after.shape (length d.said + 0) ≡ Some f.0 =
    ap (place_at after.shape) (omega arith) ∙ stands d after s said lines f ∙ f.2.next in
    let first : part_at after.shape (length d.said + 0) s ≡ part_in f.0 s = ap (λ (o : Option Place). by_place o s) here in
    let rest = fed_is (put d f.0 s) after said f.1 f.4 in
    let at : (i : ℕ) → length (d.said ++ s ∷ []) + i ≡ length d.said + suc i = λ i. omega (arith, length-append d.said (s ∷ [])) in
    let same = sum_below-same n (λ i. part_at after.shape (length (d.said ++ s ∷ []) + i) (get_or said i nothing)) (λ i. part_at after.shape (length d.said + suc i) (get_or said i nothing))
    (λ i l. ap (λ (k : ℕ). part_at after.shape k (get_or said i nothing)) (at i)) in
    let front = sum_front n (λ i. part_at after.shape (length d.said + i) (get_or (s ∷ said) i nothing)) in
    omega (arith, rest, same, front, first)

-- ---- a whole head
pub whole_heads_have_all : WholeHeadsHaveAll
whole_heads_have_all d lines which i e whole at =
    let small = few d lines e in
    let end : slice_get (places d.shape) (length d.said) ≡ None = sym (places_stand d.shape small (length d.said)) ∙ whole in
    let mine : slice_get (places d.shape) i ≡ Some which = sym (places_stand d.shape small i) ∙ at in
    inside (places d.shape) i (length d.said) which mine end
  where
    inside : (ps : List Place) (i n : ℕ) (which : Place) → slice_get ps i ≡ Some which → slice_get ps n ≡ None → i < n
    inside [] i n which e f = absurd cc
    inside (p ∷ ps) i zero which e f = absurd cc
    inside (p ∷ ps) zero (suc n) which e f = omega arith
    inside (p ∷ ps) (suc i) (suc n) which e f = omega (arith, inside ps i n which e f)

pub feed_fits : FeedFits
unfolding index_of
feed_fits d lines e whole =
    let t = lines_take blank d lines e in
    let small = few d lines e in
    let total = fed_is blank d t.0 lines t.1 in
    let limit = fed_small blank d t.0 lines t.1 (omega arith) in
    let a = components_start d.shape in
    let f : ℕ → ℕ = λ i. part_at d.shape (0 + i) (get_or t.0 i nothing) in
    let stands : (i : ℕ) → i < d.shape.n → place_at d.shape (a + i) ≡ Some (Component i) = λ i h. lines_are_found d.shape small (Component i) h in
    let one : (i : ℕ) → i < d.shape.n → up_to 1048576 (number_in (get_or d.said (a + i) nothing) 3) ≡ f (a + i) = λ i h.
    let zero_more : 0 + (a + i) ≡ a + i = omega arith in
    ap (λ (l : List Said). up_to 1048576 (number_in (get_or l (a + i) nothing) 3)) t.2
    ∙ sym (ap (λ (o : Option Place). by_place o (get_or t.0 (a + i) nothing)) (ap (place_at d.shape) zero_more ∙ stands i h)) in
    let next : place_at d.shape (roots_start d.shape) ≡ Some RootTwo = lines_are_found d.shape small RootTwo tt in
    let last : a + d.shape.n ≤ length t.0 = omega (arith, whole_heads_have_all d lines RootTwo (roots_start d.shape) e whole next, ap (λ (l : List Said). length l) t.2) in
    let bound : sum_below d.shape.n (λ i. up_to 1048576 (number_in (get_or d.said (a + i) nothing) 3)) ≤ 1048576 =
    omega (arith, sum_below-same d.shape.n (λ i. up_to 1048576 (number_in (get_or d.said (a + i) nothing) 3)) (λ i. f (a + i)) one, sum_part a d.shape.n (length t.0) f last, total, limit) in
    bound
