-- The faults of the roots of alpha and of the attractions of a case, from its entries.
use Rattle.std.proofs.Common.{◌≡◌, ℕ, ◌+◌, ◌^◌, ◌<◌, ◌≤◌, false, not, ℤ, pos, ◌≤ℤ◌, ◌<ℤ◌, Some, None, refl, ap, ◌∙◌, arith, inl, inr, min}
use Rattle.std.specs.Prelude.{int_lt}
use Rattle.std.specs.Int.{int_min}
use Rattle.std.proofs.Math.IntN.{*ℤ_comm}
use Rattle.std.proofs.lemmas.Bool.{cases_lt}
use Rattle.std.proofs.lemmas.Int.{ints, clamps}
use Rattle.log_laws.specs.Between.{Ends}
use Rattle.case_types.specs.declared.cases.Case.{Case}
use Rattle.case_types.specs.declared.cases.ParamFault.TheVariants.{BRange, BRatio, MRange, ARange}
use Rattle.case_types.specs.Arithmetic.Faults.{fault_of, fault_where, covolumes_in_range, covolumes_are_near, alpha_fault, attraction_fault, first_below}
use Rattle.case_types.specs.Arithmetic.Numbers.{numbers_of, attraction_ends}
use Rattle.pr_params.specs.Entries.{alpha_entry, covolume_entry, bare_entry, attraction_entry}
use Rattle.pr_params.proofs.Bares.{bare_turned}
use Rattle.pr_params.proofs.Below.{or_else_none, first_below_none}
use Rattle.pr_params.proofs.Entries.{alpha_is, covolume_is, attraction_is}
use Rattle.pr_params.proofs.Faulted.{below_yes, below_no, le_yes, le_no}
use Rattle.pr_params.proofs.Sizes.{where_none, not_less}

-- ---- a root of alpha
pub alpha_fault_yes : (c : Case) (i : ℕ) → i < c.n → (alpha_entry c i).lo <ℤ pos (2 ^ 38) → alpha_fault (numbers_of c) i ≡ Some (MRange (i + 1))
alpha_fault_yes c i h low = rw (alpha_is c i h, below_yes (alpha_entry c i).lo (pos (2 ^ 38)) low) refl

pub alpha_fault_no : (c : Case) (i : ℕ) → i < c.n → pos (2 ^ 38) ≤ℤ (alpha_entry c i).lo → alpha_fault (numbers_of c) i ≡ None
alpha_fault_no c i h high = rw (alpha_is c i h, below_no (alpha_entry c i).lo (pos (2 ^ 38)) high) refl

pub alpha_low : (c : Case) (i : ℕ) → i < c.n → first_below c.n (alpha_fault (numbers_of c)) ≡ None → pos (2 ^ 38) ≤ℤ (alpha_entry c i).lo
alpha_low c i h none =
    let here = first_below_none c.n (alpha_fault (numbers_of c)) i h none in
    let test : int_lt (alpha_entry c i).lo (pos (2 ^ 38)) ≡ false = where_none (int_lt (alpha_entry c i).lo (pos (2 ^ 38))) (MRange (i + 1)) (rw (alpha_is c i h) at here) in
    not_less (alpha_entry c i).lo (pos (2 ^ 38)) test

-- ---- an attraction
abbrev pub lesser_covolume : Case → ℕ → ℕ → ℤ
lesser_covolume c i j = int_min (covolume_entry c i).lo (covolume_entry c j).lo

pub attraction_fault_yes : (c : Case) (i j : ℕ) → i < c.n → j < c.n → i ≤ j → lesser_covolume c i j <ℤ (attraction_entry c i j).hi →
    attraction_fault (numbers_of c) i j ≡ Some (ARange (i + 1) (j + 1))
attraction_fault_yes c i j h g order above =
    rw (covolume_is c i h, covolume_is c j g, attraction_is c i j h g, le_yes i j order, below_yes (lesser_covolume c i j) (attraction_entry c i j).hi above) refl

pub attraction_fault_no : (c : Case) (i j : ℕ) → i < c.n → j < c.n → i ≤ j → (attraction_entry c i j).hi ≤ℤ lesser_covolume c i j →
    attraction_fault (numbers_of c) i j ≡ None
attraction_fault_no c i j h g order below =
    rw (covolume_is c i h, covolume_is c j g, attraction_is c i j h g, le_yes i j order, below_no (lesser_covolume c i j) (attraction_entry c i j).hi below) refl

pub attraction_fault_before : (c : Case) (i j : ℕ) → j < i → attraction_fault (numbers_of c) i j ≡ None
attraction_fault_before c i j order = rw (le_no i j order) refl

-- the same of the numbers that are compared
pub lesser_above : (a b m hi : ℕ) (x y z : ℤ) → pos a ≡ x → pos b ≡ y → pos hi ≡ z → m ≡ min a b → m < hi → int_min x y <ℤ z
lesser_above a b m hi x y z ea eb eh em above = omega (arith, ints, clamps, ea, eb, eh, em, above)

pub lesser_below : (a b m hi : ℕ) (x y z : ℤ) → pos a ≡ x → pos b ≡ y → pos hi ≡ z → m ≡ min a b → hi ≤ m → z ≤ℤ int_min x y
lesser_below a b m hi x y z ea eb eh em below = omega (arith, ints, clamps, ea, eb, eh, em, below)

-- the same either way round
attraction_ends_turned : (h m n : Ends) → attraction_ends h m n ≡ attraction_ends h n m
attraction_ends_turned h m n = rw (*ℤ_comm m.lo n.lo, *ℤ_comm m.hi n.hi) refl

pub attraction_turned : (c : Case) (i j : ℕ) → i < c.n → j < c.n → attraction_entry c i j ≡ attraction_entry c j i
unfolding attraction_entry
attraction_turned c i j h g =
    ap (λ (v : Ends). attraction_ends v (alpha_entry c i) (alpha_entry c j)) (bare_turned c i j h g)
    ∙ attraction_ends_turned (bare_entry c j i) (alpha_entry c i) (alpha_entry c j)

-- ---- of a case that breaks no range
ordered_below : (c : Case) (i j : ℕ) → i < c.n → j < c.n → i ≤ j → fault_of c ≡ None → (attraction_entry c i j).hi ≤ℤ lesser_covolume c i j
unfolding fault_of
ordered_below c i j h g order e =
    let range = or_else_none (fault_where (not (covolumes_in_range c)) BRange) _ e in
    let near = or_else_none (fault_where (not (covolumes_are_near c)) BRatio) _ range.1 in
    let later = (or_else_none (first_below c.n (alpha_fault (numbers_of c))) _ near.1).1 in
    let row = first_below_none c.n (λ i. first_below c.n (attraction_fault (numbers_of c) i)) i h later in
    let here = first_below_none c.n (attraction_fault (numbers_of c) i) j g row in
    let test : int_lt (lesser_covolume c i j) (attraction_entry c i j).hi ≡ false =
    where_none (int_lt (lesser_covolume c i j) (attraction_entry c i j).hi) (ARange (i + 1) (j + 1))
    (rw (covolume_is c i h, covolume_is c j g, attraction_is c i j h g, le_yes i j order) at here) in
    not_less (lesser_covolume c i j) (attraction_entry c i j).hi test

pub attraction_below : (c : Case) (i j : ℕ) → i < c.n → j < c.n → fault_of c ≡ None → (attraction_entry c i j).hi ≤ℤ (covolume_entry c i).lo
attraction_below c i j h g e =
    elim (cases_lt j i) [
      | inl less ↦
          let b = ordered_below c j i g h (omega (arith, less)) e in
          let is = ap (λ (v : Ends). v.hi) (attraction_turned c i j h g) in
          omega (arith, ints, clamps, b, is)
      | inr order ↦ let b = ordered_below c i j h g order e in omega (arith, ints, clamps, b)
    ]
