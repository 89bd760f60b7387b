-- Where a line of a head stands, by its place.
use Rattle.std.specs.Prelude.{ℕ, ◌+◌, ◌-◌, ◌==◌, ◌≡◌, ◌≤◌, ◌<◌, [], if◌then◌else◌, slice_index_or, Some, ℤ}
use Rattle.cert_lines.specs.Lines.{Said}
use Rattle.cert_lines.specs.Places.{pairs_of, place_at}
use Rattle.cert_lines.specs.Heads.{Draft, number_in}
use Rattle.cert_lines.specs.declared.places.Place.{Place}
use Rattle.cert_lines.specs.declared.places.Place.TheVariants.{Version, Temperature, Pressure, Count, Edition, Component, Interaction, RootTwo, LogE, TemperatureRoot, PressureRoot, Split, Phase, Upper, Plane, Low, Gap, Letters}
use Rattle.cert_lines.specs.declared.places.Shape.{Shape}

-- ---- the first line of a section
abbrev pub components_start : Shape → ℕ
components_start s = if s.version == 2 then 5 else 4

abbrev pub interactions_start : Shape → ℕ
interactions_start s = components_start s + s.n

abbrev pub roots_start : Shape → ℕ
roots_start s = interactions_start s + pairs_of s.n

abbrev pub pressure_roots_start : Shape → ℕ
pressure_roots_start s = roots_start s + 2 + s.n

abbrev pub split_start : Shape → ℕ
split_start s = pressure_roots_start s + pairs_of s.n

abbrev pub ends_start : Shape → ℕ
ends_start s = split_start s + 1 + s.phases

-- the index of a pair of n components in the order 01, 02, .., 12, ..
abbrev pub pair_index : ℕ → ℕ → ℕ → ℕ
pair_index n i j = if i == 0 then j - 1 else (if i == 1 then n + j - 3 else 5)

-- ---- the index of a line
unfoldable pub index_of : Shape → Place → ℕ
index_of s Version = 0
index_of s Temperature = 1
index_of s Pressure = 2
index_of s Count = 3
index_of s Edition = 4
index_of s (Component i) = components_start s + i
index_of s (Interaction i j) = interactions_start s + pair_index s.n i j
index_of s RootTwo = roots_start s
index_of s LogE = roots_start s + 1
index_of s (TemperatureRoot i) = roots_start s + 2 + i
index_of s (PressureRoot i j) = pressure_roots_start s + pair_index s.n i j
index_of s Split = split_start s
index_of s (Phase k) = split_start s + 1 + k
index_of s Upper = ends_start s
index_of s Plane = ends_start s + 1
index_of s Low = ends_start s + 2
index_of s Gap = ends_start s + 3
index_of s Letters = ends_start s + 4

-- ---- what was said on it
abbrev pub said_on : Draft → Place → Said
said_on d place = slice_index_or d.said (index_of d.shape place) (record { name = []; numbers = [] })

abbrev pub number_on : Draft → Place → ℕ → ℤ
number_on d place k = number_in (said_on d place) k

-- ---- what a head of this shape has a line for
abbrev pub HasLine : Shape → Place → Type 0
HasLine s Edition = s.version ≡ 2
HasLine s (Component i) = i < s.n
HasLine s (Interaction i j) = (i < j) × (j < s.n)
HasLine s (TemperatureRoot i) = i < s.n
HasLine s (PressureRoot i j) = (i < j) × (j < s.n)
HasLine s (Phase k) = k < s.phases
HasLine s other = Unit {0}

-- the line at an index is one of the shape's, and has that index
abbrev pub PlacesAreFound : Type 0
PlacesAreFound = (s : Shape) → s.n ≤ 4 → (at : ℕ) (place : Place) → place_at s at ≡ Some place → HasLine s place × (index_of s place ≡ at)

-- and each of the shape's lines stands at its index
abbrev pub LinesAreFound : Type 0
LinesAreFound = (s : Shape) → s.n ≤ 4 → (place : Place) → HasLine s place → place_at s (index_of s place) ≡ Some place
