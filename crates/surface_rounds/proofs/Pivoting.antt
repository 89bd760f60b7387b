-- Pivots in a row, as the list of pivots has them.
use Rattle.std.proofs.Common.{◌≡◌, ℕ, ◌+◌, List, [], ◌∷◌, ◌++◌, length, refl, sym, ap, ◌∙◌, arith, length-append}
use Rattle.std.specs.Prelude.{slice_set}
use Rattle.std.proofs.lemmas.List.{append-nil, append_assoc, length-set}
use Rattle.case_types.specs.Spared.{Spared}
use Rattle.case_types.specs.declared.cases.Case.{Case}
use Rattle.case_types.specs.declared.pivots.Pivot.{Pivot}
use Rattle.case_types.specs.declared.rounds.Column.{Column}
use Rattle.energy_surface.specs.Program.Pivots.{IsEntering, IsLeaving, ArePivots}
use Rattle.exact_lp.proofs.Exports.{pivots-push}
use Rattle.surface_rounds.specs.Flashing.{Pivoted}

pub none_pivoted : (c : Case) (cols : List Column) (at : List ℕ) (list : Spared Pivot) (units : ℕ) → units ≡ 0 → Pivoted c cols at at list list units
unfolding ArePivots
none_pivoted c cols at list units e = record { own = []; pushed = sym (append-nil list.items); counted = sym e; room = omega (arith, e); pivots = refl }

pub one_pivot_more : (c : Case) (cols : List Column) (from mid : List ℕ) (v : Pivot) (old now new : Spared Pivot) (units more : ℕ) → Pivoted c cols from mid old now units →
    IsEntering c.n cols mid v.enter → IsLeaving c cols mid v.enter v.leave → new.items ≡ now.items ++ v ∷ [] → new.spare + 1 ≡ now.spare → more ≡ units + 1 →
    Pivoted c cols from (slice_set mid v.leave v.enter) old new more
one_pivot_more c cols from mid v old now new units more h enters leaves pushed room e = record {
  own = h.own ++ v ∷ [];
  pushed = pushed ∙ ap (λ vs. vs ++ v ∷ []) h.pushed ∙ append_assoc old.items h.own (v ∷ []);
  counted = length-append h.own (v ∷ []) ∙ (omega (arith, e, h.counted));
  room = omega (arith, room, h.room, e);
  pivots = pivots-push c cols from mid h.own v h.pivots enters leaves;
}

-- pivots after pivots
pub pivots_append : (c : Case) (cols : List Column) (from mid to : List ℕ) (vs ws : List Pivot) → ArePivots c cols from vs mid → ArePivots c cols mid ws to → ArePivots c cols from (vs ++ ws) to
unfolding ArePivots
pivots_append c cols from mid to [] ws h k = rw h k
pivots_append c cols from mid to (v ∷ vs) ws h k = (h.0, h.1, pivots_append c cols (slice_set from v.leave v.enter) mid to vs ws h.2 k)

-- a basis has four places all the way
pub places_stay : (c : Case) (cols : List Column) (from to : List ℕ) (vs : List Pivot) → ArePivots c cols from vs to → length from ≡ 4 → length to ≡ 4
unfolding ArePivots
places_stay c cols from to [] h four = rw (← h) four
places_stay c cols from to (v ∷ vs) h four = places_stay c cols (slice_set from v.leave v.enter) to vs h.2 (length-set from v.leave v.enter ∙ four)
