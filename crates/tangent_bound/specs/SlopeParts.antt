-- What the parts of slope lows stand for, as they are computed.
use Rattle.std.specs.Prelude.{ℕ, ◌<◌, ◌≡◌, ◌⊎◌, Bool, nat_lt, List, Option, Some, None, map, ℤ, slice_index, slice_index_or}
use Rattle.log_laws.specs.Between.{Ends}
use Rattle.log_laws.specs.Sums.{all_below}
use Rattle.log_laws.specs.Interval.{ends_of}
use Rattle.log_laws.specs.declared.iv.Iv.{Iv}
use Rattle.case_types.specs.declared.parts.MixSlope.{MixSlope}
use Rattle.case_types.specs.declared.parts.PackingSlope.{PackingSlope}
use Rattle.case_types.specs.Arithmetic.Bounds.{box_of}
use Rattle.case_types.specs.Arithmetic.Numbers.{Numbers}
use Rattle.case_types.specs.Arithmetic.Tables.{ends_at}
use Rattle.case_types.specs.Grid.Cells.{Region, box_of_region}
use Rattle.log_laws.specs.Interval.{ends}
use Rattle.slope_form.specs.Arithmetic.{ends_if}
use Rattle.slope_form.specs.Forms.{form_of}
use Rattle.tangent_bound.specs.declared.fractions.Fractions.{Fractions}
use Rattle.tangent_bound.specs.SlopeLows.{MixForms, PackingForms, centre, mix_forms, packing_forms, packing_from, packing_to, step_from, step_to}

-- an entry of a list of numbers, some of which may not be there
abbrev pub entry : List (Option Iv) → ℕ → Option Ends
entry vs i = ends_if (slice_index_or vs i None)

-- they are the fractions of n components over the cell
pub record AreFractions (n : ℕ) (r : Region) (x : Fractions) : Type 0 where
  pub ends : box_of x.ends ≡ box_of_region n r
  pub middle : (i : ℕ) → i < 4 → slice_index x.middle i ≡ centre n r i

-- there is something of each of n components
abbrev pub has_each : ℕ → List ℕ → Bool
has_each n parts = all_below n (λ i. nat_lt 0 (slice_index parts i))

-- the forms that are kept
abbrev pub mix_forms_of : MixSlope → MixForms
mix_forms_of m = record {
  mixing = Some (form_of m.mixing);
  log_covolume = Some (form_of m.log_covolume);
  ratio = Some (form_of m.ratio);
  push = Some (form_of m.push);
  plane = Some (form_of m.plane);
}

abbrev pub packing_forms_of : PackingSlope → PackingForms
packing_forms_of s = record {
  packing = form_of s.packing;
  log_packing = Some (form_of s.log_packing);
  log_rest = Some (form_of s.log_rest);
  lambda = Some (form_of s.lambda);
}

-- it is the part of the compositions of the cell, under a plane
pub record IsMixSlope (p : Numbers) (lam : List ℤ) (r : Region) (m : MixSlope) : Type 0 where
  pub forms : mix_forms p lam r ≡ mix_forms_of m
  pub steps : (j : ℕ) → j < 3 → ends_at (map ends_of m.steps) j ≡ ends (step_from r j) (step_to r j)

-- it is the part of the packings from yl to yh
pub record IsPackingSlope (p : Numbers) (yl yh : ℕ) (s : PackingSlope) : Type 0 where
  pub forms : packing_forms p yl yh ≡ packing_forms_of s
  pub step : ends_of s.step ≡ ends (packing_from yl yh) (packing_to yl yh)

-- some form isn't there
abbrev pub LacksMix : MixForms → Type 0
LacksMix m = (m.mixing ≡ None) ⊎ (m.log_covolume ≡ None) ⊎ (m.ratio ≡ None) ⊎ (m.push ≡ None) ⊎ (m.plane ≡ None)

abbrev pub LacksPacking : PackingForms → Type 0
LacksPacking s = (s.log_packing ≡ None) ⊎ (s.log_rest ≡ None) ⊎ (s.lambda ≡ None)
