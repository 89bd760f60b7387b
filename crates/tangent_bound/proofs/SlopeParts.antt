-- The parts of a cell's form and what they stand for: values at the middle of the cell and at a state in it.
use Rattle.std.proofs.Common.{ℕ, ◌+◌, ◌*◌, ◌/◌, ◌^◌, ◌≡◌, pos, ℤ, List, Option, Some}
use Rattle.log_laws.specs.Fraction.{Fraction, product_of, whole}
use Rattle.log_laws.specs.LogSum.{LogSum, constant, ratio}
use Rattle.case_types.specs.declared.cases.Case.{Case}
use Rattle.case_types.specs.Arithmetic.Bounds.{one, plane_sum, potential}
use Rattle.case_types.specs.Arithmetic.Numbers.{Numbers, numbers_of}
use Rattle.case_types.specs.Energy.Divisions.{State, moles, mixing, mean_covolume, mean_attraction}
use Rattle.case_types.specs.Energy.Instances.{Instance}
use Rattle.case_types.specs.Grid.Cells.{Region}
use Rattle.slope_form.specs.Forms.{Form}
use Rattle.slope_form.specs.Meaning.{Steps, IsSloped, Means}
use Rattle.slope_form.proofs.Exports.{IsForm}
use Rattle.tangent_bound.specs.SlopeLows.{centre, mixing_form, covolume_form, attraction_form, plane_form, packing_form}

-- the forms that a cell's form is made of
pub record Parts : Type 0 where
  pub mixing : Option Form
  pub packing : Form
  -- the mean covolume, lifted and plain, and the mean attraction, lifted
  pub lifted : Option Form
  pub plain : Option Form
  pub attraction : Option Form
  pub plane : Option Form

abbrev pub parts_of : Numbers → List ℤ → Region → Parts
parts_of p lam r = record {
  mixing = mixing_form p r;
  packing = packing_form r.ylo r.yhi;
  lifted = covolume_form p r 16;
  plain = covolume_form p r (16 + p.lift);
  attraction = attraction_form p r;
  plane = plane_form p lam r;
}

-- what they stand for at a state
pub record Values : Type 0 where
  pub mixing : LogSum
  pub packing : Fraction
  pub lifted : Fraction
  pub plain : Fraction
  pub attraction : Fraction
  pub plane : Fraction

abbrev pub values_at : Case → Instance → List ℤ → State → Values
values_at c x lam f =
    let power : Fraction = whole (pos (2 ^ (numbers_of c).lift)) in
    record {
      mixing = mixing c.n f;
      packing = f.packing;
      lifted = product_of (mean_covolume c f) power;
      plain = mean_covolume c f;
      attraction = product_of (mean_attraction c x f) power;
      plane = record { num = plane_sum c.n (potential lam) f.parts; den = moles c.n f * one };
    }

-- the middle of a cell, of 2^40 parts
abbrev pub middle_state : ℕ → Region → State
middle_state n r = record { parts = centre n r; packing = ratio ((r.ylo + r.yhi) / 2) one }

-- ---- a form that may not be there means u at the middle and v at the state
pub record Shows (q : Option Form) (d : Steps) (u v : LogSum) : Type 0 where
  pub form : (h : Form) → q ≡ Some h → IsForm h
  pub means : (h : Form) → q ≡ Some h → Means h d u v

-- the same without its range
pub record ShowsSlope (q : Option Form) (d : Steps) (u v : LogSum) : Type 0 where
  pub form : (h : Form) → q ≡ Some h → IsForm h
  pub sloped : (h : Form) → q ≡ Some h → IsSloped h d u v

-- all parts do
pub record PartsShow (p : Parts) (d : Steps) (c v : Values) : Type 0 where
  pub mixing : ShowsSlope p.mixing d c.mixing v.mixing
  pub packing : Shows (Some p.packing) d (constant c.packing) (constant v.packing)
  pub lifted : Shows p.lifted d (constant c.lifted) (constant v.lifted)
  pub plain : Shows p.plain d (constant c.plain) (constant v.plain)
  pub attraction : Shows p.attraction d (constant c.attraction) (constant v.attraction)
  pub plane : ShowsSlope p.plane d (constant c.plane) (constant v.plane)
