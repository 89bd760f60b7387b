-- The lines of a head in their order. Components and phases count from 0.
use Rattle.std.specs.Prelude.{ℕ, ◌+◌, ◌-◌, ◌*◌, ◌==◌, ◌≡◌, ◌≤◌, ◌<◌, nat_lt, List, [], ◌∷◌, ◌++◌, map, Option, Some, None, if◌then◌else◌}
use Rattle.std.specs.List.{flat_map, range_with_len, slice_get}
use Rattle.cert_lines.specs.declared.places.Place.{Place}
use Rattle.cert_lines.specs.declared.places.Place.TheVariants.{Version, Temperature, Pressure, Count, Edition, Component, Interaction, RootTwo, LogE, TemperatureRoot, PressureRoot, Split, Phase, Upper, Plane, Low, Gap, Letters}
use Rattle.cert_lines.specs.declared.places.Shape.{Shape}

-- ---- the list
-- the pairs of n components, each with every later one: 01, 02, .., 12, ..
abbrev pub pairs : ℕ → List (ℕ × ℕ)
pairs n = flat_map (λ i. map (λ j. (i, j)) (range_with_len (i + 1) (n - (i + 1)))) (range_with_len 0 n)

-- a line for each of n components or phases
abbrev pub numbered : (ℕ → Place) → ℕ → List Place
numbered line n = map line (range_with_len 0 n)

-- a line for each pair
abbrev pub paired : (ℕ → ℕ → Place) → ℕ → List Place
paired line n = map (λ p. line p.0 p.1) (pairs n)

-- version 2 has it alone
abbrev pub edition_line : ℕ → List Place
edition_line version = if version == 2 then Edition ∷ [] else []

unfoldable pub places : Shape → List Place
places s =
    Version ∷ Temperature ∷ Pressure ∷ Count ∷ (edition_line s.version
    ++ (numbered Component s.n
    ++ (paired Interaction s.n
    ++ (RootTwo ∷ LogE ∷ (numbered TemperatureRoot s.n
    ++ (paired PressureRoot s.n
    ++ (Split ∷ (numbered Phase s.phases
    ++ (Upper ∷ Plane ∷ Low ∷ Gap ∷ Letters ∷ [])))))))))

-- ---- one of them by its index, found without the list
-- how many pairs n components have
abbrev pub pairs_of : ℕ → ℕ
pairs_of n = if n == 2 then 1 else (if n == 3 then 3 else (if n == 4 then 6 else 0))

-- the pairs in the order 01, 02, .., 12, ..
abbrev pub pair_at : ℕ → ℕ → ℕ × ℕ
pair_at n at =
    if nat_lt (at + 1) n then (0, at + 1)
    else (if nat_lt (at + 3) (2 * n) then (1, at + 3 - n)
    else (2, 3))

unfoldable pub from_ends : ℕ → Option Place
from_ends at =
    if at == 0 then Some Upper
    else (if at == 1 then Some Plane
    else (if at == 2 then Some Low
    else (if at == 3 then Some Gap
    else (if at == 4 then Some Letters
    else None))))

unfoldable pub from_split : Shape → ℕ → Option Place
from_split s at =
    if at == 0 then Some Split
    else (if nat_lt (at - 1) s.phases then Some (Phase (at - 1))
    else from_ends (at - 1 - s.phases))

unfoldable pub from_pressure_roots : Shape → ℕ → Option Place
from_pressure_roots s at =
    if nat_lt at (pairs_of s.n) then Some (PressureRoot (pair_at s.n at).0 (pair_at s.n at).1)
    else from_split s (at - pairs_of s.n)

unfoldable pub from_roots : Shape → ℕ → Option Place
from_roots s at =
    if at == 0 then Some RootTwo
    else (if at == 1 then Some LogE
    else (if nat_lt (at - 2) s.n then Some (TemperatureRoot (at - 2))
    else from_pressure_roots s (at - 2 - s.n)))

unfoldable pub from_interactions : Shape → ℕ → Option Place
from_interactions s at =
    if nat_lt at (pairs_of s.n) then Some (Interaction (pair_at s.n at).0 (pair_at s.n at).1)
    else from_roots s (at - pairs_of s.n)

unfoldable pub from_components : Shape → ℕ → Option Place
from_components s at =
    if nat_lt at s.n then Some (Component at) else from_interactions s (at - s.n)

-- version 2 has a line of the edition
unfoldable pub from_edition : Shape → ℕ → Option Place
from_edition s at =
    if s.version == 2
    then (if at == 0 then Some Edition else from_components s (at - 1))
    else from_components s at

-- the line at an index, none past the last line
unfoldable pub place_at : Shape → ℕ → Option Place
place_at s at =
    if at == 0 then Some Version
    else (if at == 1 then Some Temperature
    else (if at == 2 then Some Pressure
    else (if at == 3 then Some Count
    else from_edition s (at - 4))))

-- it is the one that the list has there
abbrev pub PlacesStand : Type 0
PlacesStand = (s : Shape) → s.n ≤ 4 → (at : ℕ) → place_at s at ≡ slice_get (places s) at

-- ---- what a line is of
-- the components and the phase of a line are those of the shape, and a pair is in order
abbrev pub IsPlaceOf : Shape → Place → Type 0
IsPlaceOf s (Component i) = i < s.n
IsPlaceOf s (Interaction i j) = (i < j) × (j < s.n)
IsPlaceOf s (TemperatureRoot i) = i < s.n
IsPlaceOf s (PressureRoot i j) = (i < j) × (j < s.n)
IsPlaceOf s (Phase k) = k < s.phases
IsPlaceOf s other = Unit {0}
