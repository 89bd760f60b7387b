-- The surface of Peng and Robinson bounds their energy, so lows of its cells bound divisions, and upper energies bound splits.
use Rattle.std.proofs.Common.{◌≡◌, ℕ, ◌<◌, ◌≤◌, ◌^◌, pos, ◌<ℤ◌, IsFalse, sym, subst, refl, arith}
use Rattle.std.proofs.lemmas.Int.{ints}
use Rattle.log_laws.specs.Fraction.{Fraction, IsSame}
use Rattle.log_laws.specs.LogSum.{AtMost, ratio}
use Rattle.case_types.specs.Arithmetic.Bounds.{one, potential}
use Rattle.case_types.specs.Energy.Weighing.{IsAbovePlane}
use Rattle.case_types.specs.Grid.Cells.{root_region, misses, IsWithin}
use Rattle.case_types.specs.Energy.Divisions.{IsState, bits, division_of, energy_of, energy_of_division}
use Rattle.case_types.specs.Arithmetic.Holding.{IsInBox}
use Rattle.case_types.specs.Arithmetic.Numbers.{numbers_of}
use Rattle.case_types.specs.Arithmetic.Splits.{split_up}
use Rattle.case_types.proofs.Exports.{total_positive}
use Rattle.energy_surface.specs.Energies.{HasFractions}
use Rattle.energy_surface.specs.Surfaces.{IsOver}
use Rattle.energy_surface.proofs.Exports.{lows_certify as surface_lows_certify, uppers_certify as surface_uppers_certify}
use Rattle.pr_params.proofs.Exports.{count_of}
use Rattle.helmholtz_density.proofs.Exports.{energy_up_holds}
use Rattle.tangent_bound.proofs.Exports.{energy_low_holds, slope_low_holds}
use Rattle.pr_surface.specs.Bounding.{NumbersBound, LowsCertify, UppersCertify}
use Rattle.pr_surface.specs.PengRobinson.{surface_of}

-- a packing of y units is strictly between 0 and 1 where y is
not_empty : (f : Fraction) (y : ℕ) → f ≡ ratio y one → pos 0 <ℤ f.num → 1 ≤ y
not_empty f y e h = let k : pos 0 <ℤ pos y = rw e at h in omega (arith, ints, k)

not_full : (f : Fraction) (y : ℕ) → f ≡ ratio y one → f.num <ℤ pos f.den → y < 2 ^ 40
not_full f y e h = let k : pos y <ℤ pos one = rw e at h in omega (arith, ints, k)

pub numbers_bound : NumbersBound
numbers_bound c x accepted inst =
    let count = count_of c in
    record {
      low = λ box yl yh f has packed within is_state from to.
          energy_low_holds c x box f yl yh accepted inst (subst (λ (n : ℕ). HasFractions n box) count has) packed
          (subst (λ (n : ℕ). IsInBox n box f) count within) (subst (λ (n : ℕ). IsState n f) count is_state) from to;
      up = λ box y f has within is_state is.
          energy_up_holds c x box f y accepted inst (subst (λ (n : ℕ). HasFractions n box) count has)
          (not_empty f.packing y is is_state.not_empty) (not_full f.packing y is is_state.not_full)
          (subst (λ (n : ℕ). IsInBox n box f) count within) (subst (λ (n : ℕ). IsState n f) count is_state)
          (subst (λ (g : Fraction). IsSame g (ratio y one)) (sym is) refl);
      slope = λ lam r low f inside meets is state within.
          let at = subst (λ (n : ℕ). IsWithin n r f) count within in
          subst (λ (n : ℕ). IsAbovePlane n (energy_of c x) (potential lam) low f) (sym count)
          (slope_low_holds c x lam r low f accepted inst inside.low inside.high inside.free_low inside.free_high (subst (λ (n : ℕ). IsFalse (misses n r)) count meets) is
          (subst (λ (n : ℕ). IsState n f) count state) at);
    }

pub lows_certify : LowsCertify
lows_certify c x lam low d accepted inst over divides =
    let s = surface_of (numbers_of c) in
    let whole = subst (λ (n : ℕ). IsOver s lam low (root_region n)) (sym (count_of c)) over in
    surface_lows_certify s (energy_of c x) c lam low d (numbers_bound c x accepted inst) (count_of c) (total_positive c) whole divides

-- a split has at most its upper energy
pub uppers_certify : UppersCertify
uppers_certify c x split accepted inst divides =
    let s = surface_of (numbers_of c) in
    subst (λ (n : ℕ). AtMost (energy_of_division c x (division_of split)) (bits (split_up n s.up split))) (count_of c)
    (surface_uppers_certify s (energy_of c x) c split (numbers_bound c x accepted inst) (count_of c) divides)
