-- What the parts that a cell has stand for.
use Rattle.std.specs.Prelude.{ℕ, ◌≡◌, ◌==◌, if◌then◌else◌, List, [], ◌∷◌, ℤ, Option, IfSome}
use Rattle.std.specs.Option.{option_map}
use Rattle.case_types.specs.declared.parts.MixLow.{MixLow}
use Rattle.case_types.specs.declared.parts.MixSlope.{MixSlope}
use Rattle.case_types.specs.declared.parts.MixUp.{MixUp}
use Rattle.case_types.specs.declared.parts.PackingLogs.{PackingLogs}
use Rattle.case_types.specs.declared.parts.PackingSlope.{PackingSlope}
use Rattle.case_types.specs.Arithmetic.Bounds.{Box, plane_high}
use Rattle.case_types.specs.Grid.Cells.{Region, region_of, box_of_region, cut, packing_edge, GridPoint, middle_point}
use Rattle.case_types.specs.Grid.Columns.{IsGridPoint, point_box}
use Rattle.box_search.specs.declared.parts.BoxParts.{BoxParts}
use Rattle.box_search.specs.declared.parts.Half.{Half}
use Rattle.box_search.specs.declared.parts.Made.{Made}
use Rattle.box_search.specs.declared.parts.PointParts.{PointParts}
use Rattle.box_search.specs.declared.parts.Shared.{Shared}
use Rattle.box_search.specs.declared.parts.Shared.TheVariants.{Compositions, Packings, Nothing}
use Rattle.box_search.specs.declared.parts.Slopes.{Slopes}

-- what a surface of so many components says of its parts, as relations: of a box and its part of lower or of upper bounds, of a
-- packing fraction and its logarithms, of a plane, ends of fractions and their part of slope lows, of ends of the packing fraction
-- and their part of slope lows
pub record Meanings : Type 1 where
  pub count : ℕ
  pub is_mix_low : Box → MixLow → Type 0
  pub is_mix_up : Box → MixUp → Type 0
  pub are_logs : ℕ → PackingLogs → Type 0
  pub is_mix_slope : List ℤ → List ℕ → List ℕ → MixSlope → Type 0
  pub is_packing_slope : ℕ → ℕ → PackingSlope → Type 0

abbrev pub meanings : ℕ → (Box → MixLow → Type 0) → (Box → MixUp → Type 0) → (ℕ → PackingLogs → Type 0) →
    (List ℤ → List ℕ → List ℕ → MixSlope → Type 0) → (ℕ → ℕ → PackingSlope → Type 0) → Meanings
meanings n low up logs mix packing = record {
  count = n;
  is_mix_low = low;
  is_mix_up = up;
  are_logs = logs;
  is_mix_slope = mix;
  is_packing_slope = packing;
}

-- they are the logarithms at this packing fraction
abbrev pub AreLogsAt : Meanings → ℕ → PackingLogs → Type 0
AreLogsAt m y logs = (logs.packing ≡ y) × m.are_logs y logs

-- they belong to the compositions of this cell under this plane
pub record IsOverBox (m : Meanings) (lam : List ℤ) (r : Region) (over : BoxParts) : Type 0 where
  pub mix : m.is_mix_low (box_of_region m.count r) over.mix
  pub plane : over.plane ≡ plane_high m.count lam (box_of_region m.count r)

-- ---- grid points
abbrev pub grid_point : PointParts → GridPoint
grid_point p = record { composition = p.comp; packing = p.logs.packing }

-- it is a grid point with its parts
pub record IsPoint (m : Meanings) (p : PointParts) : Type 0 where
  pub point : IsGridPoint m.count (grid_point p)
  pub mix : m.is_mix_up (point_box p.comp) p.mix
  pub logs : m.are_logs p.logs.packing p.logs

-- the grid point, where there is one
abbrev pub point_in : Option PointParts → Option GridPoint
point_in p = option_map grid_point p

-- ---- cells
-- a part of slope lows is that of the compositions of this cell under this plane
abbrev pub IsMixSlopeOf : Meanings → List ℤ → Region → MixSlope → Type 0
IsMixSlopeOf m lam r = m.is_mix_slope lam r.lo r.hi

-- or that of its packing fractions
abbrev pub IsPackingSlopeOf : Meanings → Region → PackingSlope → Type 0
IsPackingSlopeOf m r = m.is_packing_slope r.ylo r.yhi

-- the logarithms are those in its middle, and the parts of the slope low that are there are its own
pub record AreSlopes (m : Meanings) (lam : List ℤ) (r : Region) (slopes : Slopes) : Type 0 where
  pub middle : AreLogsAt m (cut r packing_edge) slopes.middle
  pub packing : IfSome slopes.packing (IsPackingSlopeOf m r)
  pub mix : IfSome slopes.mix (IsMixSlopeOf m lam r)

-- all that was made for a cell is its own
pub record IsMade (m : Meanings) (lam : List ℤ) (r : Region) (made : Made) : Type 0 where
  pub over : IsOverBox m lam r made.over
  pub slopes : AreSlopes m lam r made.slopes

-- so is what a cell shares with the one that it is a half of
pub record AreSharedCompositions (m : Meanings) (lam : List ℤ) (r : Region) (box : BoxParts) (mix : Option MixUp) (form : Option MixSlope) : Type 0 where
  pub over : IsOverBox m lam r box
  pub middle : IfSome mix (m.is_mix_up (point_box (middle_point m.count r).composition))
  pub slope : IfSome form (IsMixSlopeOf m lam r)

pub record AreSharedPackings (m : Meanings) (r : Region) (logs : PackingLogs) (form : Option PackingSlope) : Type 0 where
  pub middle : AreLogsAt m (cut r packing_edge) logs
  pub slope : IfSome form (IsPackingSlopeOf m r)

abbrev pub IsShared : Meanings → List ℤ → Region → Shared → Type 0
IsShared m lam r (Compositions over middle slope) = AreSharedCompositions m lam r over middle slope
IsShared m lam r (Packings middle slope) = AreSharedPackings m r middle slope
IsShared m lam r Nothing = Unit {0}

-- all parts that it has are its own
pub record HasParts (m : Meanings) (lam : List ℤ) (half : Half) : Type 0 where
  pub from : AreLogsAt m half.cell.ylo half.from
  pub to : AreLogsAt m half.cell.yhi half.to
  pub shared : IsShared m lam (region_of half.cell) half.shared

-- what both halves of a cell along an edge have from it: along the packing what was made of its compositions, along a fraction what
-- was made of its packings
abbrev pub shared_along : ℕ → Made → Option PointParts → Shared
shared_along edge made middle =
    if edge == packing_edge then Compositions made.over (option_map (λ (p : PointParts). p.mix) middle) made.slopes.mix
    else Packings made.slopes.middle made.slopes.packing

-- the logarithms where both halves meet along the packing, else those of the cell
abbrev pub logs_along : ℕ → Made → PackingLogs → PackingLogs
logs_along edge made own = if edge == packing_edge then made.slopes.middle else own

-- cells that are still to be looked at, without and with their parts
pub record Held : Type 0 where
  pub regions : List Region
  pub halves : List Half

-- each has its parts
abbrev pub HaveParts : Meanings → List ℤ → List Half → Type 0
HaveParts m lam [] = Unit {0}
HaveParts m lam (h ∷ hs) = HasParts m lam h × HaveParts m lam hs
