-- A column that is kept in place of the one that a search finds cuts the plane off no less.
use Rattle.std.proofs.Common.{◌≡◌, ℕ, List, [], ◌∷◌, Option, Some, None, ℤ, ◌+ℤ◌, ◌-ℤ◌, ◌≤ℤ◌, ◌<ℤ◌, refl, arith}
use Rattle.std.specs.Prelude.{IsSomeAnd}
use Rattle.std.proofs.lemmas.Int.{ints}
use Rattle.case_types.specs.declared.planes.Plane.{Plane}
use Rattle.case_types.specs.declared.rounds.Column.{Column}
use Rattle.case_types.specs.declared.units.Units.{Units}
use Rattle.case_types.specs.Grid.Cells.{Region, GridPoint, midpoint}
use Rattle.case_types.specs.Grid.Columns.{point_of, plane_at_point}
use Rattle.case_types.specs.Grid.Visits.{OfHand}
use Rattle.energy_surface.specs.declared.found.Found.{Found}
use Rattle.energy_surface.specs.declared.found.Found.TheVariants.{AllClear, Refuted, Spent, Grain}
use Rattle.energy_surface.specs.Columns.{IsColumn, Refutes}
use Rattle.energy_surface.specs.Searches.{IsCutOff, IsNoHigher, IsSearched, low_of}
use Rattle.energy_surface.specs.Surfaces.{Surface, under}
use Rattle.box_search.specs.Found.{IsFound, units_of}
use Rattle.box_search.specs.Written.{Searches}
use Rattle.surface_rounds.specs.Guessing.{LiesNoHigher}
use Rattle.surface_rounds.specs.Polished.{IsPolished}
use Rattle.split_energies.proofs.Exports.{through}

below : (up plane other at delta : ℤ) → (up -ℤ plane) ≤ℤ (other -ℤ at) → (other +ℤ delta) <ℤ at → (up +ℤ delta) <ℤ plane
below up plane other at delta h k = omega (arith, ints, h, k)

-- ---- the one column for the other
module _ (s : Surface) (plane : Plane) (delta : ℤ) (found kept : Column) (good : IsColumn s kept) (lower : LiesNoHigher s plane kept found) where
  kept_refutes : IsColumn s found → Refutes (under s plane.lam delta) (point_of found) → Refutes (under s plane.lam delta) (point_of kept)
  kept_refutes was h = record {
    point = good.point;
    small = rw (← good.up) good.small;
    below = rw (← good.up) (below kept.up (plane_at_point s.count plane.lam (point_of kept)) found.up (plane_at_point s.count plane.lam (point_of found)) delta lower (rw (← was.up) at h.below));
  }

  no_higher : (g : GridPoint) → IsNoHigher (under s plane.lam delta) found g → IsNoHigher (under s plane.lam delta) kept g
  no_higher g h = through _ _ _ lower h

  at_middle : (middle : Option GridPoint) → IsSomeAnd middle (λ g. Refutes (under s plane.lam delta) g × IsNoHigher (under s plane.lam delta) found g) →
      IsSomeAnd middle (λ g. Refutes (under s plane.lam delta) g × IsNoHigher (under s plane.lam delta) kept g)
  at_middle None h = h
  at_middle (Some g) h = (h.0, no_higher g h.1)

  cuts_too : (hand : Region) → IsCutOff (under s plane.lam delta) found hand → IsCutOff (under s plane.lam delta) kept hand
  cuts_too hand h = record {
    uncleared = h.uncleared;
    at_middle = at_middle (midpoint s.count hand) h.at_middle;
    column = good;
    refutes = kept_refutes h.column h.refutes;
  }

  in_hand : (left : List Region) → OfHand (IsCutOff (under s plane.lam delta) found) left → OfHand (IsCutOff (under s plane.lam delta) kept) left
  in_hand [] h = h
  in_hand (hand ∷ rest) h = cuts_too hand h

  kept_searched : (letters : List ℕ) → IsSearched (under s plane.lam delta) (Refuted found) letters → IsSearched (under s plane.lam delta) (Refuted kept) letters
  kept_searched letters h = record {
    tree = h.tree;
    before = h.before;
    left = h.left;
    preorder = h.preorder;
    caused = h.caused;
    ends = in_hand h.left h.ends;
    written = h.written;
    low = h.low;
  }

-- ---- whatever a search finds
pub polished_units : (s : Surface) (plane : Plane) (found kept : Found) → IsPolished s plane found kept → units_of kept ≡ units_of found
polished_units s plane (AllClear low) kept h = rw h refl
polished_units s plane (Refuted column) kept h = rw h.is refl
polished_units s plane (Spent low) kept h = rw h refl
polished_units s plane (Grain low cell) kept h = rw h refl

pub polished_low : (s : Surface) (plane : Plane) (found kept : Found) → IsPolished s plane found kept → low_of kept ≡ low_of found
polished_low s plane (AllClear low) kept h = rw h refl
polished_low s plane (Refuted column) kept h = rw h.is refl
polished_low s plane (Spent low) kept h = rw h refl
polished_low s plane (Grain low cell) kept h = rw h refl

module _ (s : Surface) (plane : Plane) (delta : ℤ) where
  pub polished_found : (units : Units) (found kept : Found) → IsPolished s plane found kept → IsFound (under s plane.lam delta) units found → IsFound (under s plane.lam delta) units kept
  polished_found units (AllClear low) kept h is = rw h is
  polished_found units (Refuted column) kept h is = rw h.is (h.column, kept_refutes s plane delta column h.polished h.column h.no_higher is.0 is.1)
  polished_found units (Spent low) kept h is = rw h is
  polished_found units (Grain low cell) kept h is = rw h is

  searched_too : (found kept : Found) (letters : List ℕ) → IsPolished s plane found kept → IsSearched (under s plane.lam delta) found letters → IsSearched (under s plane.lam delta) kept letters
  searched_too (AllClear low) kept letters h is = rw h is
  searched_too (Refuted column) kept letters h is = rw h.is (kept_searched s plane delta column h.polished h.column h.no_higher letters is)
  searched_too (Spent low) kept letters h is = rw h is
  searched_too (Grain low cell) kept letters h is = rw h is

  pub polished_searches : (old new : List ℕ) (units : ℕ) (found kept : Found) → IsPolished s plane found kept → Searches (under s plane.lam delta) old new units found →
      Searches (under s plane.lam delta) old new units kept
  polished_searches old new units found kept h is = record {
    own = is.own;
    written = is.written;
    searched = searched_too found kept is.own h is.searched;
    counted = rw (polished_units s plane found kept h) is.counted;
  }
