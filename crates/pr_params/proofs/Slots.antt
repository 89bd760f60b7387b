-- Arrays of four that hold numbers of live components.
use Rattle.std.proofs.Common.{◌≡◌, ℕ, zero, suc, ◌<◌, ◌≤◌, nat_lt, List, [], ◌∷◌, length, get_or, map, take, refl, sym, ap, ◌∙◌, arith, inl, inr}
use Rattle.std.proofs.lemmas.Bool.{cases_lt}
use Rattle.std.proofs.lemmas.List.{take-map, get_or-map, length-map}
use Rattle.log_laws.specs.Between.{Ends}
use Rattle.log_laws.specs.Sums.{list_below}
use Rattle.log_laws.specs.declared.iv.Iv.{Iv}
use Rattle.log_laws.specs.Interval.{ends_of}
use Rattle.log_laws.proofs.Exports.{and_false}
use Rattle.case_types.specs.Arithmetic.Numbers.{table_below}
use Rattle.case_types.specs.Energy.Printed.{ends_in}
use Rattle.case_types.specs.Arithmetic.Tables.{no_ends, ends_of_pair}
use Rattle.pr_params.specs.Entries.{four, live_ends, live_pair, ends_of_all, ends_of_table, filled, filled_table}
use Rattle.pr_params.specs.Kept.{IsVacant, IsVacantTable}
use Rattle.pr_params.proofs.Faulted.{lt_yes, lt_no}

-- ---- a component is live or it isn't
pub live_yes : (n : ℕ) (f : ℕ → Ends) (i : ℕ) → i < n → live_ends n f i ≡ f i
live_yes n f i h = rw (lt_yes i n h) refl

pub live_no : (n : ℕ) (f : ℕ → Ends) (i : ℕ) → n ≤ i → live_ends n f i ≡ no_ends
live_no n f i h = rw (lt_no i n h) refl

pub pair_yes : (n : ℕ) (f : ℕ → ℕ → Ends) (i j : ℕ) → i < n → j < n → live_pair n f i j ≡ f i j
pair_yes n f i j h g = rw (lt_yes i n h, lt_yes j n g) refl

-- ---- an entry of four
four_at : {X : Type 0} → (f : ℕ → X) (d : X) (i : ℕ) → i < 4 → get_or (four f) i d ≡ f i
four_at f d zero h = refl
four_at f d (suc zero) h = refl
four_at f d (suc (suc zero)) h = refl
four_at f d (suc (suc (suc zero))) h = refl
four_at f d (suc (suc (suc (suc i)))) h = absurd (omega (arith, h))

-- and past the fourth
past_four : {X : Type 0} → (f : ℕ → X) (d : X) (i : ℕ) → 4 ≤ i → get_or (four f) i d ≡ d
past_four f d zero h = absurd (omega (arith, h))
past_four f d (suc zero) h = absurd (omega (arith, h))
past_four f d (suc (suc zero)) h = absurd (omega (arith, h))
past_four f d (suc (suc (suc zero))) h = absurd (omega (arith, h))
past_four f d (suc (suc (suc (suc i)))) h = refl

-- four intervals hold the ends of f below n
pub slot_at : (n : ℕ) (f : ℕ → Ends) (vs : List Iv) (d : Iv) (i : ℕ) → n ≤ 4 → ends_of_all vs ≡ filled n f → i < n → ends_of (get_or vs i d) ≡ f i
slot_at n f vs d i few e h =
    let four_long : length (ends_of_all vs) ≡ 4 = ap (λ (xs : List Ends). length xs) e in
    let long : i < length vs = let l = length-map vs ends_of in omega (arith, few, h, l, four_long) in
    sym (get_or-map ends_of vs i d no_ends long)
    ∙ ap (λ (xs : List Ends). get_or xs i no_ends) e
    ∙ four_at (live_ends n f) no_ends i (omega (arith, few, h))
    ∙ live_yes n f i h

-- and so does a table
pub row_slot_at : (n : ℕ) (f : ℕ → ℕ → Ends) (rows : List (List Iv)) (d : List Iv) (i : ℕ) → n ≤ 4 → ends_of_table rows ≡ filled_table n f → i < n →
    ends_of_all (get_or rows i d) ≡ four (live_pair n f i)
row_slot_at n f rows d i few e h =
    let four_long : length (ends_of_table rows) ≡ 4 = ap (λ (xs : List (List Ends)). length xs) e in
    let long : i < length rows = let l = length-map rows ends_of_all in omega (arith, few, h, l, four_long) in
    sym (get_or-map ends_of_all rows i d [] long)
    ∙ ap (λ (xs : List (List Ends)). get_or xs i []) e
    ∙ four_at (λ i. four (live_pair n f i)) [] i (omega (arith, few, h))

pub pair_slot_at : (n : ℕ) (f : ℕ → ℕ → Ends) (row : List Iv) (d : Iv) (i j : ℕ) → n ≤ 4 → ends_of_all row ≡ four (live_pair n f i) → i < n → j < n →
    ends_of (get_or row j d) ≡ f i j
pair_slot_at n f row d i j few e h g =
    let four_long : length (ends_of_all row) ≡ 4 = ap (λ (xs : List Ends). length xs) e in
    let long : j < length row = let l = length-map row ends_of in omega (arith, few, g, l, four_long) in
    sym (get_or-map ends_of row j d no_ends long)
    ∙ ap (λ (xs : List Ends). get_or xs j no_ends) e
    ∙ four_at (live_pair n f i) no_ends j (omega (arith, few, g))
    ∙ pair_yes n f i j h g

-- ---- the first n of four
taken_of : (n : ℕ) (f : ℕ → Ends) → n ≤ 4 → take n (filled n f) ≡ list_below n f
unfolding list_below
taken_of zero f h = refl
taken_of (suc zero) f h = refl
taken_of (suc (suc zero)) f h = refl
taken_of (suc (suc (suc zero))) f h = refl
taken_of (suc (suc (suc (suc zero)))) f h = refl
taken_of (suc (suc (suc (suc (suc n))))) f h = absurd (omega (arith, h))

pub taken : (n : ℕ) (f : ℕ → Ends) (vs : List Iv) → n ≤ 4 → ends_of_all vs ≡ filled n f → ends_in n vs ≡ list_below n f
taken n f vs h e = sym (take-map ends_of n vs) ∙ ap (λ (xs : List Ends). take n xs) e ∙ taken_of n f h

rows_taken : (n : ℕ) (rows : List (List Iv)) → map (ends_in n) rows ≡ map (λ (xs : List Ends). take n xs) (ends_of_table rows)
rows_taken n [] = refl
rows_taken n (row ∷ rows) = rw (take-map ends_of n row, rows_taken n rows) refl

table_of : (n : ℕ) (f : ℕ → ℕ → Ends) → n ≤ 4 → map (λ (xs : List Ends). take n xs) (take n (filled_table n f)) ≡ table_below n f
unfolding list_below
table_of zero f h = refl
table_of (suc zero) f h = refl
table_of (suc (suc zero)) f h = refl
table_of (suc (suc (suc zero))) f h = refl
table_of (suc (suc (suc (suc zero)))) f h = refl
table_of (suc (suc (suc (suc (suc n))))) f h = absurd (omega (arith, h))

pub table_taken : (n : ℕ) (f : ℕ → ℕ → Ends) (rows : List (List Iv)) → n ≤ 4 → ends_of_table rows ≡ filled_table n f →
    map (ends_in n) (take n rows) ≡ table_below n f
table_taken n f rows h e =
    rows_taken n (take n rows)
    ∙ ap (λ (xs : List (List Ends)). map (λ (ys : List Ends). take n ys) xs) (sym (take-map ends_of_all n rows) ∙ ap (λ (xs : List (List Ends)). take n xs) e)
    ∙ table_of n f h

-- ---- from n on there is nothing
filled_past : (n : ℕ) (f : ℕ → Ends) (i : ℕ) → n ≤ i → get_or (filled n f) i no_ends ≡ no_ends
filled_past n f i h =
    elim (cases_lt i 4) [
      | inl less ↦ four_at (live_ends n f) no_ends i less ∙ live_no n f i h
      | inr more ↦ past_four (live_ends n f) no_ends i more
    ]

pub vacant : (n : ℕ) (f : ℕ → Ends) (vs : List Iv) → ends_of_all vs ≡ filled n f → IsVacant n vs
vacant n f vs e = record { at = λ i h. ap (λ (xs : List Ends). get_or xs i no_ends) e ∙ filled_past n f i h }

table_past : (n : ℕ) (f : ℕ → ℕ → Ends) (i j : ℕ) → live_pair n f i j ≡ no_ends → ends_of_pair (filled_table n f) i j ≡ no_ends
table_past n f i j e =
    elim (cases_lt i 4) [
      | inl less ↦
          ap (λ (row : List Ends). get_or row j no_ends) (four_at (λ i. four (live_pair n f i)) [] i less)
          ∙ elim (cases_lt j 4) [
            | inl short ↦ four_at (live_pair n f i) no_ends j short ∙ e
            | inr long ↦ past_four (live_pair n f i) no_ends j long
          ]
      | inr more ↦ ap (λ (row : List Ends). get_or row j no_ends) (past_four (λ i. four (live_pair n f i)) [] i more)
    ]

pub vacant_table : (n : ℕ) (f : ℕ → ℕ → Ends) (rows : List (List Iv)) → ends_of_table rows ≡ filled_table n f → IsVacantTable n rows
vacant_table n f rows e = record {
  row_at = λ i j h. ap (λ (xs : List (List Ends)). ends_of_pair xs i j) e ∙ table_past n f i j (no_row i j h);
  column_at = λ i j h. ap (λ (xs : List (List Ends)). ends_of_pair xs i j) e ∙ table_past n f i j (no_column i j h);
}
  where
    no_row : (i j : ℕ) → n ≤ i → live_pair n f i j ≡ no_ends
    no_row i j h = rw (lt_no i n h) refl

    no_column : (i j : ℕ) → n ≤ j → live_pair n f i j ≡ no_ends
    no_column i j h = rw (lt_no j n h, and_false (nat_lt i n)) refl
