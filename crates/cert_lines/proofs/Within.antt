-- The lines of a shape are of its components and its phases.
use Rattle.std.proofs.Common.{◌≡◌, ℕ, zero, suc, ◌+◌, ◌<◌, ◌≤◌, [], ◌∷◌, get_or, sym, subst, ◌∙◌, arith, lit<, Bool, true, false, if◌then◌else◌, Some}
use Rattle.std.specs.Prelude.{◌==◌}
use Rattle.std.specs.List.{All, range_with_len, slice_get}
use Rattle.std.proofs.lemmas.List.Elements.{All-append, All-from_recursion, All-map, All-nil}
use Rattle.std.proofs.lemmas.List.FromFn.{length-range_with_len, get_or-range_with_len}
use Rattle.std.proofs.lemmas.Option.{get_or_from_slice_get, slice_get_within}
use Rattle.cert_lines.specs.declared.places.Place.{Place}
use Rattle.cert_lines.specs.declared.places.Place.TheVariants.{Version, Temperature, Pressure, Count, Edition, Component, Interaction, RootTwo, LogE, TemperatureRoot, PressureRoot, Split, Phase, Upper, Plane, Low, Gap, Letters}
use Rattle.cert_lines.specs.declared.places.Shape.{Shape}
use Rattle.cert_lines.specs.Places.{places, edition_line, numbered, paired, IsPlaceOf}

pub numbered_each : (P : Place → Type 0) (line : ℕ → Place) (n : ℕ) → ((i : ℕ) → i < n → P (line i)) → All P (numbered line n)
numbered_each P line n each = All-map P line (range_with_len 0 n) (λ k d h. at k d (omega (arith, h, length-range_with_len 0 n)))
  where
    at : (k d : ℕ) → k < n → P (line (get_or (range_with_len 0 n) k d))
    at k d few =
        let plain : 0 + k ≡ k = omega arith in
        subst (λ (i : ℕ). P (line i)) (sym (get_or-range_with_len 0 n k d few ∙ plain)) (each k few)

pub paired_each : (P : Place → Type 0) (line : ℕ → ℕ → Place) (n : ℕ) → n ≤ 4 → ((i j : ℕ) → i < j → j < n → P (line i j)) → All P (paired line n)
paired_each P line zero few each = All-nil P
paired_each P line (suc zero) few each = All-nil P
paired_each P line (suc (suc zero)) few each = All-from_recursion P (line 0 1 ∷ []) (each 0 1 (lit< tt) (lit< tt), tt)
paired_each P line (suc (suc (suc zero))) few each =
    All-from_recursion P (line 0 1 ∷ line 0 2 ∷ line 1 2 ∷ []) (each 0 1 (lit< tt) (lit< tt), (each 0 2 (lit< tt) (lit< tt), (each 1 2 (lit< tt) (lit< tt), tt)))
paired_each P line (suc (suc (suc (suc zero)))) few each =
    All-from_recursion P (line 0 1 ∷ line 0 2 ∷ line 0 3 ∷ line 1 2 ∷ line 1 3 ∷ line 2 3 ∷ []) (
      each 0 1 (lit< tt) (lit< tt),
      (each 0 2 (lit< tt) (lit< tt), (each 0 3 (lit< tt) (lit< tt), (each 1 2 (lit< tt) (lit< tt), (each 1 3 (lit< tt) (lit< tt), (each 2 3 (lit< tt) (lit< tt), tt))))),
    )
paired_each P line (suc (suc (suc (suc (suc n))))) few each = absurd (omega (arith, few))

pub edition_each : (P : Place → Type 0) (version : ℕ) → P Edition → All P (edition_line version)
edition_each P version h = by_test (version == 2)
  where
    by_test : (b : Bool) → All P (if b then Edition ∷ [] else [])
    by_test true = All-from_recursion P (Edition ∷ []) (h, tt)
    by_test false = All-nil P

pub places_within : (s : Shape) → s.n ≤ 4 → All (IsPlaceOf s) (places s)
unfolding places
places_within s few =
    let P = IsPlaceOf s in
    All-append P (Version ∷ Temperature ∷ Pressure ∷ Count ∷ []) _ (All-from_recursion P (Version ∷ Temperature ∷ Pressure ∷ Count ∷ []) (tt, (tt, (tt, (tt, tt)))))
    (All-append P (edition_line s.version) _ (edition_each P s.version tt)
    (All-append P (numbered Component s.n) _ (numbered_each P Component s.n (λ i h. h))
    (All-append P (paired Interaction s.n) _ (paired_each P Interaction s.n few (λ i j h k. (h, k)))
    (All-append P (RootTwo ∷ LogE ∷ []) _ (All-from_recursion P (RootTwo ∷ LogE ∷ []) (tt, (tt, tt)))
    (All-append P (numbered TemperatureRoot s.n) _ (numbered_each P TemperatureRoot s.n (λ i h. h))
    (All-append P (paired PressureRoot s.n) _ (paired_each P PressureRoot s.n few (λ i j h k. (h, k)))
    (All-append P (Split ∷ []) _ (All-from_recursion P (Split ∷ []) (tt, tt))
    (All-append P (numbered Phase s.phases) _ (numbered_each P Phase s.phases (λ k h. h))
    (All-from_recursion P (Upper ∷ Plane ∷ Low ∷ Gap ∷ Letters ∷ []) (tt, (tt, (tt, (tt, (tt, tt))))))))))))))

-- the line at an index
pub place_within : (s : Shape) (k : ℕ) (p : Place) → s.n ≤ 4 → slice_get (places s) k ≡ Some p → IsPlaceOf s p
place_within s k p few e =
    subst (IsPlaceOf s) (get_or_from_slice_get (places s) k p p e) (places_within s few k p (slice_get_within (places s) k p e))
