-- How many lines a head has.
use Rattle.std.proofs.Common.{◌≡◌, ℕ, zero, suc, ◌+◌, ◌*◌, ◌≤◌, [], ◌∷◌, length, refl, arith, Bool, true, false, if◌then◌else◌}
use Rattle.std.specs.Prelude.{◌==◌}
use Rattle.std.proofs.lemmas.Bool.{eqb-true}
use Rattle.std.proofs.lemmas.List.{length-append, length-map}
use Rattle.std.proofs.lemmas.List.FromFn.{length-map-range_with_len}
use Rattle.cert_lines.specs.declared.places.Place.{Place}
use Rattle.cert_lines.specs.declared.places.Place.TheVariants.{Edition, Component, Interaction, TemperatureRoot, PressureRoot, Phase}
use Rattle.cert_lines.specs.declared.places.Shape.{Shape}
use Rattle.cert_lines.specs.Places.{places, edition_line, paired, pairs_of}
use Rattle.cert_format.specs.declared.heads.Head.{Head}
use Rattle.cert_format.specs.Heads.{says, said_of, shape_of}

paired_count : (f : ℕ → ℕ → Place) (n : ℕ) → n ≤ 4 → length (paired f n) ≡ pairs_of n
paired_count f zero h = refl
paired_count f (suc zero) h = refl
paired_count f (suc (suc zero)) h = refl
paired_count f (suc (suc (suc zero))) h = refl
paired_count f (suc (suc (suc (suc zero)))) h = refl
paired_count f (suc (suc (suc (suc (suc n))))) h = absurd (omega (arith, h))

edition_count : (version : ℕ) → length (edition_line version) ≡ (if version == 2 then 1 else 0)
edition_count version = by_test (version == 2)
  where
    by_test : (b : Bool) → length (if b then Edition ∷ [] else []) ≡ (if b then 1 else 0)
    by_test true = refl
    by_test false = refl

places_count : (s : Shape) (edition : ℕ) → s.n ≤ 4 → edition ≡ (if s.version == 2 then 1 else 0) → length (places s) ≡ 12 + edition + 2 * s.n + 2 * pairs_of s.n + s.phases
unfolding places
places_count s edition few e =
    rw (length-append, length-append, length-append, length-append, length-append, length-append)
    (omega (
      arith,
      e,
      edition_count s.version,
      length-map-range_with_len Component 0 s.n,
      paired_count Interaction s.n few,
      length-map-range_with_len TemperatureRoot 0 s.n,
      paired_count PressureRoot s.n few,
      length-map-range_with_len Phase 0 s.phases,
    ))

pub not_two : (v : ℕ) → (v ≡ 2 → ⊥) → (v == 2) ≡ false
not_two v other = by_case (v == 2) refl
  where
    by_case : (x : Bool) → (v == 2) ≡ x → x ≡ false
    by_case true k = absurd (other (eqb-true v 2 k))
    by_case false k = refl

pub lines_count : (h : Head) (edition : ℕ) → edition ≡ (if h.version == 2 then 1 else 0)
    → 12 + edition + 2 * h.params.case.n + 2 * pairs_of h.params.case.n + length h.split.phases.items ≡ length (said_of h)
lines_count h edition e =
    let s = shape_of h in
    let mapped = length-map (places s) (says h) in
    let count = places_count s edition h.params.case.few e in
    omega (arith, mapped, count)
