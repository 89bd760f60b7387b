-- The phases of a split as states.
use Rattle.std.proofs.Common.{true, ◌≡◌, ◌^◌, ℕ, ◌<◌, ◌≤◌, List, get_or, length, map, nat_le, nat_lt, ap, arith}
use Rattle.std.specs.List.{All}
use Rattle.std.proofs.lemmas.Int.{ints}
use Rattle.std.proofs.lemmas.Bool.{leb-true, ltb-true}
use Rattle.std.proofs.lemmas.List.{get_or-map}
use Rattle.std.proofs.lemmas.List.Elements.{All-map}
use Rattle.std.proofs.lemmas.List.Sums.{AllPass-from_list_all}
use Rattle.log_laws.proofs.Exports.{and_true}
use Rattle.case_types.specs.declared.phases.Phase.{Phase}
use Rattle.case_types.specs.declared.phases.Split.{Split}
use Rattle.case_types.specs.Ranges.{is_packing}
use Rattle.case_types.specs.Energy.Divisions.{State, IsState, moles, state_of}

-- a phase with a live part is a state, for its packing is on the grid
pub state_of-is_state : (n : ℕ) (f : Phase) → is_packing f.packing ≡ true → 0 < moles n (state_of f) → IsState n (state_of f)
state_of-is_state n f packed some =
    let both = and_true (nat_le 1 f.packing) (nat_lt f.packing (2 ^ 40)) packed in
    let low : 1 ≤ f.packing = leb-true 1 f.packing both.0 in
    let high : f.packing < 2 ^ 40 = ltb-true f.packing (2 ^ 40) both.1 in
    record {
      some = some;
      is_fraction = omega arith;
      not_empty = omega (arith, ints, low);
      not_full = omega (arith, ints, high);
    }

-- the live parts of a phase are those of its state
pub live_parts : (n : ℕ) (xs : List Phase) (k : ℕ) (d : Phase) (e : State) → k < length xs
    → moles n (get_or (map state_of xs) k e) ≡ moles n (state_of (get_or xs k d))
live_parts n xs k d e l = ap (moles n) (get_or-map state_of xs k d e l)

-- phases that each have a live part are states
pub states_of : (n : ℕ) (s : Split)
    → ((k : ℕ) → k < length s.phases.items → (d : State) → 0 < moles n (get_or (map state_of s.phases.items) k d))
    → All (IsState n) (map state_of s.phases.items)
states_of n s each = All-map (IsState n) state_of s.phases.items (λ (k : ℕ) (d : Phase) (l : k < length s.phases.items).
    let packed = AllPass-from_list_all (λ (f : Phase). is_packing f.packing) s.phases.items s.packed k d l in
    let same = live_parts n s.phases.items k d (state_of d) l in
    let some = each k l (state_of d) in
    state_of-is_state n (get_or s.phases.items k d) packed (omega (arith, same, some)))
