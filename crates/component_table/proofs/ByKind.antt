-- A record of each kind, field by field.
use Rattle.std.proofs.Common.{◌≡◌, ℕ, ◌^◌, List, [], ◌∷◌, refl, ℤ}
use Rattle.std.specs.Prelude.{Result, Ok, Err, ⊤}
use Rattle.dec_text.specs.Decimals.{decimal_of, signed_decimal_of}
use Rattle.case_types.specs.Ranges.{is_critical_temperature, is_critical_pressure, is_acentric_factor, is_interaction}
use Rattle.case_words.specs.Names.{name_of}
use Rattle.component_table.specs.declared.faults.TableFault.{TableFault}
use Rattle.component_table.specs.Records.{PlainComp, PlainPair, PlainCp, field, valued, ranged, nothing_of, is_coefficient, comp_of, pair_of, cp_of}

-- ---- what the text of a field is
abbrev pub name_at : ℕ → ℕ → List ℕ → Result (List ℕ) TableFault
name_at n f text = valued n f (name_of text)

abbrev pub tc_at : ℕ → List ℕ → Result ℕ TableFault
tc_at n text = ranged n 3 is_critical_temperature (decimal_of 3 (10 ^ 15) text)

abbrev pub pc_at : ℕ → List ℕ → Result ℕ TableFault
pc_at n text = ranged n 4 is_critical_pressure (decimal_of 0 (10 ^ 15) text)

abbrev pub w_at : ℕ → List ℕ → Result ℤ TableFault
w_at n text = ranged n 5 is_acentric_factor (signed_decimal_of 4 (10 ^ 15) text)

abbrev pub k_at : ℕ → List ℕ → Result ℤ TableFault
k_at n text = ranged n 4 is_interaction (signed_decimal_of 4 (10 ^ 15) text)

abbrev pub coefficient_at : ℕ → ℕ → List ℕ → Result ℤ TableFault
coefficient_at n f text = ranged n f is_coefficient (signed_decimal_of 3 (10 ^ 15) text)

abbrev pub nothing_at : ℕ → ℕ → List ℕ → Result ⊤ TableFault
nothing_at n f text = valued n f (nothing_of text)

-- ---- a component
pub comp-name : (n : ℕ) (fs : List (List ℕ)) (fault : TableFault) → name_at n 2 (field 2 fs) ≡ Err fault → comp_of n fs ≡ Err fault
unfolding comp_of
comp-name n fs fault e = rw e refl

pub comp-tc : (n : ℕ) (fs : List (List ℕ)) (name : List ℕ) (fault : TableFault) → name_at n 2 (field 2 fs) ≡ Ok name
    → tc_at n (field 3 fs) ≡ Err fault → comp_of n fs ≡ Err fault
unfolding comp_of
comp-tc n fs name fault is e = rw (is, e) refl

pub comp-pc : (n : ℕ) (fs : List (List ℕ)) (name : List ℕ) (tc : ℕ) (fault : TableFault) → name_at n 2 (field 2 fs) ≡ Ok name
    → tc_at n (field 3 fs) ≡ Ok tc → pc_at n (field 4 fs) ≡ Err fault → comp_of n fs ≡ Err fault
unfolding comp_of
comp-pc n fs name tc fault is is_tc e = rw (is, is_tc, e) refl

pub comp-w : (n : ℕ) (fs : List (List ℕ)) (name : List ℕ) (tc pc : ℕ) (fault : TableFault) → name_at n 2 (field 2 fs) ≡ Ok name
    → tc_at n (field 3 fs) ≡ Ok tc → pc_at n (field 4 fs) ≡ Ok pc → w_at n (field 5 fs) ≡ Err fault → comp_of n fs ≡ Err fault
unfolding comp_of
comp-w n fs name tc pc fault is is_tc is_pc e = rw (is, is_tc, is_pc, e) refl

pub comp-end : (n : ℕ) (fs : List (List ℕ)) (name : List ℕ) (tc pc : ℕ) (w : ℤ) (fault : TableFault) → name_at n 2 (field 2 fs) ≡ Ok name
    → tc_at n (field 3 fs) ≡ Ok tc → pc_at n (field 4 fs) ≡ Ok pc → w_at n (field 5 fs) ≡ Ok w → nothing_at n 6 (field 6 fs) ≡ Err fault
    → comp_of n fs ≡ Err fault
unfolding comp_of
comp-end n fs name tc pc w fault is is_tc is_pc is_w e = rw (is, is_tc, is_pc, is_w, e) refl

pub comp-good : (n : ℕ) (fs : List (List ℕ)) (name : List ℕ) (tc pc : ℕ) (w : ℤ) (u : ⊤) → name_at n 2 (field 2 fs) ≡ Ok name
    → tc_at n (field 3 fs) ≡ Ok tc → pc_at n (field 4 fs) ≡ Ok pc → w_at n (field 5 fs) ≡ Ok w → nothing_at n 6 (field 6 fs) ≡ Ok u
    → comp_of n fs ≡ Ok (PlainComp (record { name = name; tc = tc; pc = pc; w = w }))
unfolding comp_of
comp-good n fs name tc pc w u is is_tc is_pc is_w e = rw (is, is_tc, is_pc, is_w, e) refl

-- ---- an interaction
pub pair-first : (n : ℕ) (fs : List (List ℕ)) (fault : TableFault) → name_at n 2 (field 2 fs) ≡ Err fault → pair_of n fs ≡ Err fault
unfolding pair_of
pair-first n fs fault e = rw e refl

pub pair-second : (n : ℕ) (fs : List (List ℕ)) (a : List ℕ) (fault : TableFault) → name_at n 2 (field 2 fs) ≡ Ok a
    → name_at n 3 (field 3 fs) ≡ Err fault → pair_of n fs ≡ Err fault
unfolding pair_of
pair-second n fs a fault is e = rw (is, e) refl

pub pair-k : (n : ℕ) (fs : List (List ℕ)) (a b : List ℕ) (fault : TableFault) → name_at n 2 (field 2 fs) ≡ Ok a
    → name_at n 3 (field 3 fs) ≡ Ok b → k_at n (field 4 fs) ≡ Err fault → pair_of n fs ≡ Err fault
unfolding pair_of
pair-k n fs a b fault is is_b e = rw (is, is_b, e) refl

pub pair-fifth : (n : ℕ) (fs : List (List ℕ)) (a b : List ℕ) (k : ℤ) (fault : TableFault) → name_at n 2 (field 2 fs) ≡ Ok a
    → name_at n 3 (field 3 fs) ≡ Ok b → k_at n (field 4 fs) ≡ Ok k → nothing_at n 5 (field 5 fs) ≡ Err fault → pair_of n fs ≡ Err fault
unfolding pair_of
pair-fifth n fs a b k fault is is_b is_k e = rw (is, is_b, is_k, e) refl

pub pair-sixth : (n : ℕ) (fs : List (List ℕ)) (a b : List ℕ) (k : ℤ) (u : ⊤) (fault : TableFault) → name_at n 2 (field 2 fs) ≡ Ok a
    → name_at n 3 (field 3 fs) ≡ Ok b → k_at n (field 4 fs) ≡ Ok k → nothing_at n 5 (field 5 fs) ≡ Ok u → nothing_at n 6 (field 6 fs) ≡ Err fault
    → pair_of n fs ≡ Err fault
unfolding pair_of
pair-sixth n fs a b k u fault is is_b is_k is_u e = rw (is, is_b, is_k, is_u, e) refl

pub pair-good : (n : ℕ) (fs : List (List ℕ)) (a b : List ℕ) (k : ℤ) (u v : ⊤) → name_at n 2 (field 2 fs) ≡ Ok a
    → name_at n 3 (field 3 fs) ≡ Ok b → k_at n (field 4 fs) ≡ Ok k → nothing_at n 5 (field 5 fs) ≡ Ok u → nothing_at n 6 (field 6 fs) ≡ Ok v
    → pair_of n fs ≡ Ok (PlainPair a b k)
unfolding pair_of
pair-good n fs a b k u v is is_b is_k is_u e = rw (is, is_b, is_k, is_u, e) refl

-- ---- a heat capacity
pub cp-name : (n : ℕ) (fs : List (List ℕ)) (fault : TableFault) → name_at n 2 (field 2 fs) ≡ Err fault → cp_of n fs ≡ Err fault
unfolding cp_of
cp-name n fs fault e = rw e refl

pub cp-a : (n : ℕ) (fs : List (List ℕ)) (name : List ℕ) (fault : TableFault) → name_at n 2 (field 2 fs) ≡ Ok name
    → coefficient_at n 3 (field 3 fs) ≡ Err fault → cp_of n fs ≡ Err fault
unfolding cp_of
cp-a n fs name fault is e = rw (is, e) refl

pub cp-b : (n : ℕ) (fs : List (List ℕ)) (name : List ℕ) (a : ℤ) (fault : TableFault) → name_at n 2 (field 2 fs) ≡ Ok name
    → coefficient_at n 3 (field 3 fs) ≡ Ok a → coefficient_at n 4 (field 4 fs) ≡ Err fault → cp_of n fs ≡ Err fault
unfolding cp_of
cp-b n fs name a fault is is_a e = rw (is, is_a, e) refl

pub cp-c : (n : ℕ) (fs : List (List ℕ)) (name : List ℕ) (a b : ℤ) (fault : TableFault) → name_at n 2 (field 2 fs) ≡ Ok name
    → coefficient_at n 3 (field 3 fs) ≡ Ok a → coefficient_at n 4 (field 4 fs) ≡ Ok b → coefficient_at n 5 (field 5 fs) ≡ Err fault
    → cp_of n fs ≡ Err fault
unfolding cp_of
cp-c n fs name a b fault is is_a is_b e = rw (is, is_a, is_b, e) refl

pub cp-d : (n : ℕ) (fs : List (List ℕ)) (name : List ℕ) (a b c : ℤ) (fault : TableFault) → name_at n 2 (field 2 fs) ≡ Ok name
    → coefficient_at n 3 (field 3 fs) ≡ Ok a → coefficient_at n 4 (field 4 fs) ≡ Ok b → coefficient_at n 5 (field 5 fs) ≡ Ok c
    → coefficient_at n 6 (field 6 fs) ≡ Err fault → cp_of n fs ≡ Err fault
unfolding cp_of
cp-d n fs name a b c fault is is_a is_b is_c e = rw (is, is_a, is_b, is_c, e) refl

pub cp-good : (n : ℕ) (fs : List (List ℕ)) (name : List ℕ) (a b c d : ℤ) → name_at n 2 (field 2 fs) ≡ Ok name
    → coefficient_at n 3 (field 3 fs) ≡ Ok a → coefficient_at n 4 (field 4 fs) ≡ Ok b → coefficient_at n 5 (field 5 fs) ≡ Ok c
    → coefficient_at n 6 (field 6 fs) ≡ Ok d → cp_of n fs ≡ Ok (PlainCp name (a ∷ b ∷ c ∷ d ∷ []))
unfolding cp_of
cp-good n fs name a b c d is is_a is_b is_c e = rw (is, is_a, is_b, is_c, e) refl
