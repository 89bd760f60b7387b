-- What a head says passes the tests of its lines.
use Rattle.std.proofs.Common.{◌≡◌, ℕ, zero, suc, ◌+◌, ◌<◌, ◌≤◌, List, [], ◌∷◌, length, get_or, map, refl, arith, Bool, true, false, not, ◌||◌, if◌then◌else◌, ℤ, pos, ◌≤ℤ◌, slice_index, slice_index_or, inl, inr}
use Rattle.std.specs.Prelude.{◌==◌, ◌⊎◌, int_le, int_lt}
use Rattle.std.specs.List.{All, list_any}
use Rattle.std.specs.Str.{bytes_eq}
use Rattle.std.proofs.lemmas.Int.{ints}
use Rattle.std.proofs.lemmas.Bool.{le-leb, lt-ltb, and_parts}
use Rattle.std.proofs.lemmas.List.Elements.{All-head, All-tail}
use Rattle.std.proofs.lemmas.List.Folds.{list_any_none}
use Rattle.log_laws.specs.Sums.{list_below, sum_below}
use Rattle.log_laws.proofs.Exports.{get_or-list_below, length-list_below, sum_below-fewer}
use Rattle.case_types.specs.Energy.Components.{feed}
use Rattle.case_types.specs.Energy.Instances.{pair_place}
use Rattle.case_types.specs.declared.cases.Case.{Case}
use Rattle.case_types.specs.declared.cases.Edition.{Edition}
use Rattle.case_types.specs.declared.cases.Edition.TheVariants.{Y1976, Y1978}
use Rattle.case_types.specs.declared.phases.Phase.{Phase}
use Rattle.case_words.specs.Names.{are_different, is_name_length}
use Rattle.cert_lines.specs.Heads.{Draft, has_part, part_in, reshaped, suits, up_to}
use Rattle.cert_lines.specs.Lines.{Said}
use Rattle.cert_lines.specs.Places.{IsPlaceOf}
use Rattle.cert_lines.specs.declared.places.Place.{Place}
use Rattle.cert_lines.specs.declared.places.Place.TheVariants.{Version, Temperature, Pressure, Count, Edition as EditionLine, Component, Interaction, RootTwo, LogE, TemperatureRoot, PressureRoot, Split as SplitLine, Phase as PhaseLine, Upper, Plane, Low, Gap, Letters}
use Rattle.cert_lines.specs.declared.places.Shape.{Shape}
use Rattle.cert_format.specs.Heads.{IsHead, edition_number, name_of_component, phase_said, saying, says, shape_of}
use Rattle.cert_format.specs.Writing.{IsSized}
use Rattle.cert_format.specs.declared.heads.Head.{Head}
use Rattle.cert_format.proofs.Fitting.{ends_kept, ends_kept_at, name_long_at}

-- ---- lines that leave the shape and the feed as they were
-- a line that says nothing of the shape and has no part of the feed
abbrev pub is_steady : Place → Bool
is_steady Version = false
is_steady Count = false
is_steady (Component i) = false
is_steady SplitLine = false
is_steady Letters = false
is_steady other = true

pub steady_shape : (p : Place) (sh : Shape) (s : Said) → is_steady p ≡ true → reshaped sh p s ≡ sh
steady_shape Version sh s e = absurd cc
steady_shape Count sh s e = absurd cc
steady_shape (Component i) sh s e = absurd cc
steady_shape SplitLine sh s e = absurd cc
steady_shape Letters sh s e = absurd cc
steady_shape Temperature sh s e = refl
steady_shape Pressure sh s e = refl
steady_shape EditionLine sh s e = refl
steady_shape (Interaction i j) sh s e = refl
steady_shape RootTwo sh s e = refl
steady_shape LogE sh s e = refl
steady_shape (TemperatureRoot i) sh s e = refl
steady_shape (PressureRoot i j) sh s e = refl
steady_shape (PhaseLine k) sh s e = refl
steady_shape Upper sh s e = refl
steady_shape Plane sh s e = refl
steady_shape Low sh s e = refl
steady_shape Gap sh s e = refl

pub steady_part : (p : Place) (s : Said) → is_steady p ≡ true → part_in p s ≡ 0
steady_part (Component i) s e = absurd cc
steady_part Version s e = refl
steady_part Count s e = refl
steady_part SplitLine s e = refl
steady_part Letters s e = refl
steady_part Temperature s e = refl
steady_part Pressure s e = refl
steady_part EditionLine s e = refl
steady_part (Interaction i j) s e = refl
steady_part RootTwo s e = refl
steady_part LogE s e = refl
steady_part (TemperatureRoot i) s e = refl
steady_part (PressureRoot i j) s e = refl
steady_part (PhaseLine k) s e = refl
steady_part Upper s e = refl
steady_part Plane s e = refl
steady_part Low s e = refl
steady_part Gap s e = refl

-- ---- their tests
edition_suits : (e : Edition) → not (up_to 78 (pos (edition_number e)) == 77) ≡ true
edition_suits Y1976 = refl
edition_suits Y1978 = refl

ordered : (a b : ℤ) → a ≤ℤ b → int_le a b ≡ true
ordered a b h = grind (arith, ints, h)

positive : (a : ℕ) → int_lt (pos 0) (pos (suc a)) ≡ true
positive a = lt-ltb 0 (suc a) (omega arith)

some_part : (a b c d : ℕ) → 0 < a + b + c + d
    → (if int_lt (pos 0) (pos a) then true else (if int_lt (pos 0) (pos b) then true else (if int_lt (pos 0) (pos c) then true else int_lt (pos 0) (pos d)))) ≡ true
some_part (suc a) b c d h = rw (positive a) refl
some_part zero (suc b) c d h = rw (positive b) refl
some_part zero zero (suc c) d h = rw (positive c) refl
some_part zero zero zero (suc d) h = positive d
some_part zero zero zero zero h = absurd (omega (arith, h))

phase_suits : (n y : ℕ) (parts : List ℕ) → n ≤ 4 → length parts ≡ 4 → 0 < sum_below n (slice_index parts)
    → has_part (phase_said n (record { parts = parts; packing = y })) ≡ true
phase_suits zero y parts few four some = absurd (omega (arith, some))
phase_suits (suc zero) y (a ∷ b ∷ c ∷ d ∷ []) few four some = some_part a 0 0 0 (omega (arith, some))
phase_suits (suc (suc zero)) y (a ∷ b ∷ c ∷ d ∷ []) few four some = some_part a b 0 0 (omega (arith, some))
phase_suits (suc (suc (suc zero))) y (a ∷ b ∷ c ∷ d ∷ []) few four some = some_part a b c 0 (omega (arith, some))
phase_suits (suc (suc (suc (suc zero)))) y (a ∷ b ∷ c ∷ d ∷ []) few four some = some_part a b c d (omega (arith, some))
phase_suits (suc (suc (suc (suc (suc n))))) y parts few four some = absurd (omega (arith, few))
phase_suits (suc n) y [] few four some = absurd (omega (arith, four))
phase_suits (suc n) y (a ∷ []) few four some = absurd (omega (arith, four))
phase_suits (suc n) y (a ∷ b ∷ []) few four some = absurd (omega (arith, four))
phase_suits (suc n) y (a ∷ b ∷ c ∷ []) few four some = absurd (omega (arith, four))
phase_suits (suc n) y (a ∷ b ∷ c ∷ d ∷ e ∷ others) few four some = absurd (omega (arith, four))

phases_suit : (n : ℕ) (fs : List Phase) (k : ℕ) → n ≤ 4 → k < length fs → All (λ (f : Phase). length f.parts ≡ 4) fs
    → All (λ (f : Phase). 0 < sum_below n (slice_index f.parts)) fs → has_part (slice_index_or (map (phase_said n) fs) k (saying [])) ≡ true
phases_suit n [] k few l four some = absurd (omega (arith, l))
phases_suit n (f ∷ fs) zero few l four some =
    phase_suits n f.packing f.parts few (All-head (λ (f : Phase). length f.parts ≡ 4) f fs four) (All-head (λ (f : Phase). 0 < sum_below n (slice_index f.parts)) f fs some)
phases_suit n (f ∷ fs) (suc k) few l four some =
    phases_suit n fs k few (omega (arith, l)) (All-tail (λ (f : Phase). length f.parts ≡ 4) f fs four) (All-tail (λ (f : Phase). 0 < sum_below n (slice_index f.parts)) f fs some)

pub says_suits : (h : Head) → IsHead h → IsSized h → (p : Place) → IsPlaceOf (shape_of h) p → is_steady p ≡ true → (d : Draft) → suits d p (says h p) ≡ true
unfolding says
says_suits h is sized Version w e d = refl
says_suits h is sized Temperature w e d = refl
says_suits h is sized Pressure w e d = refl
says_suits h is sized Count w e d = refl
says_suits h is sized EditionLine w e d = edition_suits h.params.case.edition
says_suits h is sized (Component i) w e d = absurd cc
says_suits h is sized (Interaction i j) w e d = refl
says_suits h is sized RootTwo w e d = ordered _ _ (ends_kept h.params.two).ordered
says_suits h is sized LogE w e d = ordered _ _ (ends_kept h.params.e).ordered
says_suits h is sized (TemperatureRoot i) w e d = ordered _ _ (ends_kept_at h.params.t i).ordered
says_suits h is sized (PressureRoot i j) w e d = ordered _ _ (ends_kept_at h.params.q (pair_place i j)).ordered
says_suits h is sized SplitLine w e d = refl
says_suits h is sized (PhaseLine k) w e d = phases_suit h.params.case.n h.split.phases.items k h.params.case.few w sized.parts is.phases
says_suits h is sized Upper w e d = refl
says_suits h is sized Plane w e d = refl
says_suits h is sized Low w e d = refl
says_suits h is sized Gap w e d = refl
says_suits h is sized Letters w e d = refl

-- ---- names and the feed
pub read_up_to : (limit v : ℕ) → v ≤ limit → up_to limit (pos v) ≡ v
read_up_to limit v h =
    let low : int_le (pos 0) (pos v) ≡ true = le-leb 0 v (omega arith) in
    let high : int_le (pos v) (pos limit) ≡ true = le-leb v limit h in
    rw (low, high) refl

-- the line says no name, or that of one of the first k components
abbrev pub IsBefore : Head → ℕ → Said → Type 0
IsBefore h k e = (e.name ≡ []) ⊎ ((j : ℕ) × (j < k) × (e.name ≡ name_of_component h.params.case j))

not_any : (p : List ℕ → Bool) (xs : List (List ℕ)) (i : ℕ) (d : List ℕ) → i < length xs → not (list_any p xs) ≡ true → p (get_or xs i d) ≡ false
not_any p [] i d h e = absurd (omega (arith, h))
not_any p (x ∷ xs) zero d h e = head (p x) (list_any p xs) e
  where
    head : (a b : Bool) → not (a || b) ≡ true → a ≡ false
    head true b e = absurd cc
    head false b e = refl
not_any p (x ∷ xs) (suc i) d h e = not_any p xs i d (omega (arith, h)) (tail (p x) (list_any p xs) e)
  where
    tail : (a b : Bool) → not (a || b) ≡ true → not b ≡ true
    tail true b e = absurd cc
    tail false b e = e

different_at : (xs : List (List ℕ)) (i j : ℕ) → i < j → j < length xs → are_different xs ≡ true → bytes_eq (get_or xs i []) (get_or xs j []) ≡ false
unfolding are_different
different_at [] i j h l e = absurd (omega (arith, l))
different_at (x ∷ xs) i zero h l e = absurd (omega (arith, h))
different_at (x ∷ xs) zero (suc j) h l e = not_any (bytes_eq x) xs j [] (omega (arith, l)) (and_parts (not (list_any (bytes_eq x) xs)) (are_different xs) e).0
different_at (x ∷ xs) (suc i) (suc j) h l e = different_at xs i j (omega (arith, h)) (omega (arith, l)) (and_parts (not (list_any (bytes_eq x) xs)) (are_different xs) e).1

not_empty : (text : List ℕ) → is_name_length text ≡ true → bytes_eq [] text ≡ false
not_empty [] e = absurd cc
not_empty (b ∷ text) e = refl

-- no line before has the name of a component
pub other_name : (h : Head) → IsHead h → (k : ℕ) → k < h.params.case.n → (e : Said) → IsBefore h k e → bytes_eq e.name (name_of_component h.params.case k) ≡ false
other_name h is k live e before = elim before [
  | inl none ↦ rw none (not_empty (name_of_component h.params.case k) (name_long_at h is k live))
  | inr one ↦
      let n = h.params.case.n in
      let name : ℕ → List ℕ = name_of_component h.params.case in
      rw (one.2, ← get_or-list_below n name [] one.0 (omega (arith, one.1, live)), ← get_or-list_below n name [] k live)
      (different_at (list_below n name) one.0 k one.1 (omega (arith, live, length-list_below n name)) is.differ)
]

-- the feed has room for each component
pub feed_room : (c : Case) (k : ℕ) → k < c.n → sum_below k (feed c) + feed c k ≤ 1048576
feed_room c k live = omega (arith, sum_below-fewer (suc k) c.n (feed c) (omega (arith, live)), c.added, c.total_high)

pub component_suits : (h : Head) → IsHead h → (k : ℕ) → k < h.params.case.n → (d : Draft) → d.fed ≡ sum_below k (feed h.params.case) → All (IsBefore h k) d.said
    → suits d (Component k) (says h (Component k)) ≡ true
unfolding says
component_suits h is k live d fed before =
    let c = h.params.case in
    let name = name_of_component c k in
    let room = feed_room c k live in
    let none : list_any (λ (e : Said). bytes_eq e.name name) d.said ≡ false =
    list_any_none (λ (e : Said). bytes_eq e.name name) d.said (λ i x l. other_name h is k live (get_or d.said i x) (before i x l)) in
    rw (none, fed, read_up_to 1048576 (feed c k) (omega (arith, room)), le-leb (sum_below k (feed c) + feed c k) 1048576 room) refl
