-- A head, made of what its lines say.
use Rattle.std.specs.Prelude.{ℕ, ◌+◌, ◌-◌, ◌^◌, ◌==◌, ◌&&◌, nat_lt, List, [], ◌∷◌, ◌≡◌, if◌then◌else◌, ℤ, pos, neg_ℤ, int_le, unsigned_abs, None, map}
use Rattle.log_laws.specs.Between.{Ends}
use Rattle.log_laws.specs.Interval.{ends}
use Rattle.std.specs.List.{range_with_len}
use Rattle.case_types.specs.declared.cases.Case.{Case}
use Rattle.case_types.specs.declared.cases.Row.{Row}
use Rattle.case_types.specs.declared.cases.Edition.{Edition}
use Rattle.case_types.specs.declared.cases.Edition.TheVariants.{Y1976, Y1978}
use Rattle.case_types.specs.declared.phases.Phase.{Phase}
use Rattle.case_words.specs.Names.{text_of}
use Rattle.case_types.specs.Arithmetic.Tables.{no_ends}
use Rattle.cert_lines.specs.Heads.{Draft, next_place, count_of}
use Rattle.cert_lines.specs.Indices.{said_on, number_on}
use Rattle.cert_lines.specs.declared.places.Place.{Place}
use Rattle.cert_lines.specs.declared.places.Place.TheVariants.{Temperature, Pressure, Edition as EditionLine, Component, Interaction, TemperatureRoot, PressureRoot, Phase as PhaseLine, Plane}
use Rattle.cert_format.specs.Reading.{IsRead}

-- all lines of a head were read
pub record IsWhole (d : Draft) : Type 0 where
  pub read : IsRead d
  pub ended : next_place d ≡ None

-- ---- numbers in ranges
-- a number of a range, which is its low end for all others
abbrev pub held : ℤ → ℤ → ℤ → ℤ
held low high z = if int_le low z && int_le z high then z else low

abbrev pub natural : ℕ → ℕ → ℤ → ℕ
natural low high z = unsigned_abs (held (pos low) (pos high) z)

-- of size up to a limit
abbrev pub bounded : ℕ → ℤ → ℤ
bounded limit z = held (neg_ℤ (pos limit)) (pos limit) z

-- ---- lists
abbrev pub four : {X : Type 0} → (ℕ → X) → List X
four f = f 0 ∷ f 1 ∷ f 2 ∷ f 3 ∷ []

-- of the pairs in the order 01, 02, 03, 12, 13, 23
abbrev pub six_pairs : {X : Type 0} → (ℕ → ℕ → X) → List X
six_pairs f = f 0 1 ∷ f 0 2 ∷ f 0 3 ∷ f 1 2 ∷ f 1 3 ∷ f 2 3 ∷ []

-- of the live components, and what stands for the others
abbrev pub among : {X : Type 0} → Draft → ℕ → X → X → X
among d i x none = if nat_lt i (count_of d) then x else none

-- ---- the case
abbrev pub name_on : Draft → ℕ → List ℕ
name_on d i = among d i (said_on d (Component i)).name []

abbrev pub temperature_on : Draft → ℕ → ℕ
temperature_on d i = among d i (natural 5000 1500000 (number_on d (Component i) 0)) 5000

abbrev pub pressure_on : Draft → ℕ → ℕ
pressure_on d i = among d i (natural 100000 50000000 (number_on d (Component i) 1)) 100000

abbrev pub factor_on : Draft → ℕ → ℤ
factor_on d i = among d i (held (neg_ℤ (pos 5000)) (pos 15000) (number_on d (Component i) 2)) (pos 0)

abbrev pub feed_on : Draft → ℕ → ℕ
feed_on d i = among d i (natural 1 1048576 (number_on d (Component i) 3)) 0

-- of two components, the first before the second
abbrev pub pair_on : Draft → ℕ → ℕ → ℤ
pair_on d i j = among d j (bounded 5000 (number_on d (Interaction i j) 2)) (pos 0)

abbrev pub interaction_on : Draft → ℕ → ℕ → ℤ
interaction_on d i j = if nat_lt i j then pair_on d i j else (if nat_lt j i then pair_on d j i else pos 0)

abbrev pub edition_on : Draft → Edition
edition_on d = if d.shape.version == 2 && natural 76 78 (number_on d EditionLine 0) == 78 then Y1978 else Y1976

-- a component
pub record IsRowOf (d : Draft) (i : ℕ) (r : Row) : Type 0 where
  pub name : text_of r.name ≡ name_on d i
  pub tc : r.tc ≡ temperature_on d i
  pub pc : r.pc ≡ pressure_on d i
  pub w : r.w ≡ factor_on d i

pub record AreRowsOf (d : Draft) (rows : List Row) : Type 0 where
  pub names : map (λ (r : Row). text_of r.name) rows ≡ four (name_on d)
  pub tc : map (λ (r : Row). r.tc) rows ≡ four (temperature_on d)
  pub pc : map (λ (r : Row). r.pc) rows ≡ four (pressure_on d)
  pub w : map (λ (r : Row). r.w) rows ≡ four (factor_on d)

-- the case that the lines say
pub record IsCaseOf (d : Draft) (c : Case) : Type 0 where
  pub count : c.n ≡ count_of d
  pub rows : AreRowsOf d c.rows
  pub interactions : c.k ≡ four (λ i. four (interaction_on d i))
  pub parts : c.z ≡ four (feed_on d)
  pub temperature : c.t ≡ natural 50000 1500000 (number_on d Temperature 0)
  pub pressure : c.p ≡ natural 1000 100000000 (number_on d Pressure 0)
  pub edition : c.edition ≡ edition_on d

-- ---- pairs of ends
abbrev pub end_limit : ℕ
end_limit = 2 ^ 62 - 1

-- two numbers of a line, from this one on
abbrev pub ends_on : Draft → Place → ℕ → Ends
ends_on d place k =
    ends (bounded end_limit (number_on d place k))
    (held (bounded end_limit (number_on d place k)) (pos end_limit) (number_on d place (k + 1)))

abbrev pub temperature_root_on : Draft → ℕ → Ends
temperature_root_on d i = among d i (ends_on d (TemperatureRoot i) 1) no_ends

abbrev pub pressure_root_on : Draft → ℕ → ℕ → Ends
pressure_root_on d i j = among d j (ends_on d (PressureRoot i j) 2) no_ends

-- ---- the split and the plane
abbrev pub packing_on : Draft → ℕ → ℕ
packing_on d k = natural 1 (2 ^ 40 - 1) (number_on d (PhaseLine k) 0)

abbrev pub part_on : Draft → ℕ → ℕ → ℕ
part_on d k i = among d i (natural 0 (2 ^ 104 - 1) (number_on d (PhaseLine k) (i + 1))) 0

abbrev pub phase_on : Draft → ℕ → Phase
phase_on d k = record { parts = four (part_on d k); packing = packing_on d k }

abbrev pub phases_on : Draft → List Phase
phases_on d = map (phase_on d) (range_with_len 0 d.shape.phases)

abbrev pub energy_on : Draft → Place → ℕ → ℤ
energy_on d place i = bounded (2 ^ 80 - 1) (number_on d place i)

abbrev pub potential_on : Draft → ℕ → ℤ
potential_on d i = among d i (energy_on d Plane i) (pos 0)
