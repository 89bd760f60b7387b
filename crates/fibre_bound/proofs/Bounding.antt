-- What a walk comes to are bounds: a state of the feed in one phase, and how near the low is.
use Rattle.std.proofs.Common.{ℕ, ◌^◌, List, All, refl, arith}
use Rattle.std.proofs.lemmas.Int.{ints}
use Rattle.case_types.specs.declared.cases.Case.{Case}
use Rattle.case_types.specs.Arithmetic.Bounds.{box_of_parts}
use Rattle.energy_surface.specs.Surfaces.{Surface}
use Rattle.split_energies.specs.Scanned.{IsInside, state_at}
use Rattle.split_energies.proofs.Exports.{lowest_is}
use Rattle.fibre_bound.specs.declared.fibres.Fibre.{Fibre}
use Rattle.fibre_bound.specs.Laws.{IsBound}
use Rattle.fibre_bound.specs.Walks.{IsFibre, question_of}
use Rattle.fibre_bound.proofs.Sound.{IsFirst, sound, clear_exactly, grain_inside}

-- the first state is one of the feed
pub first_is : (s : Surface) (c : Case) (packings : List ℕ) (tol : ℕ) → All IsInside packings → IsFirst (question_of s c packings tol)
first_is s c packings tol all =
    let x = box_of_parts c.n c.z in
    let lowest = lowest_is s x packings (state_at s x (2 ^ 39)) all refl (record { some = omega arith; less = omega arith }) in
    record { some = lowest.inside.some; inside = lowest.inside.less; up = lowest.up }

pub fibre_is_bound : (s : Surface) (c : Case) (packings : List ℕ) (tol units spent : ℕ) (f : Fibre) → All IsInside packings →
    IsFibre (question_of s c packings tol) units spent f → IsBound s c tol f
fibre_is_bound s c packings tol units spent f all h =
    let q = question_of s c packings tol in
    let so = sound q units (first_is s c packings tol all) h.trail h.reaches in
    let clear = clear_exactly q units h.trail f.end f.low (omega (arith, ints)) so h.ends h.low in
    record {
      some = rw h.packing so.some;
      inside = rw h.packing so.inside;
      up = rw (h.up, h.packing) so.up;
      near = rw h.up clear;
      grain = grain_inside q units h.trail f.end so h.ends;
    }
