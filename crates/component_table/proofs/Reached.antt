-- The table of the records that were read so far.
use Rattle.std.proofs.Common.{◌≡◌, ℕ, suc, ◌+◌, ◌-◌, ◌<◌, ◌≤◌, List, [], ◌∷◌, ◌++◌, length, None, Result, Ok, Err, refl, ap, ◌∙◌, arith, append_assoc, add-zero}
use Rattle.std.proofs.lemmas.List.{append-nil}
use Rattle.csv.specs.Machine.{next_record}
use Rattle.csv.specs.Reading.{Reached, default_config, records_from, strip_bom, is_bom}
use Rattle.csv.specs.declared.parser.State.{State}
use Rattle.csv.specs.declared.parser.State.TheVariants as st
use Rattle.std.specs.Prelude.{Bool, true, false, cond}
use Rattle.case_words.specs.Answers.{◌>>=◌}
use Rattle.component_table.specs.CsvText.{records_of}
use Rattle.component_table.specs.Tables.{Held, nothing, with_fields, with_records, table_of, Explains}
use Rattle.component_table.specs.declared.faults.TableFault.{TableFault}
use Rattle.component_table.specs.declared.faults.TableFault.TheVariants.{Fields}
use Rattle.component_table.specs.declared.faults.TableError.{TableError}
use Rattle.component_table.specs.declared.faults.TableError.TheVariants.{Fault, Memory}
use Rattle.component_table.proofs.Consumed.{reached-shorter, reached-records}

-- ---- the records of the bytes
-- they begin with those that were reached
pub begins : (bytes ys : List ℕ) (seen : List (List (List ℕ))) (s : State) → Reached default_config st.StartRecord (strip_bom bytes) seen s ys →
    (k : ℕ) × (records_of bytes ≡ seen ++ records_from default_config (suc k) s ys)
unfolding records_of
begins bytes ys seen s h =
    let g = (reached-shorter st.StartRecord s (strip_bom bytes) ys seen h refl).0 in
    let k : ℕ = length (strip_bom bytes) - length seen in
    let e : length (strip_bom bytes) + 1 ≡ length seen + suc k = omega arith in
    (k, rw e (reached-records st.StartRecord s (strip_bom bytes) ys seen (suc k) h))

pub all_read : (bytes ys : List ℕ) (seen : List (List (List ℕ))) (s : State) → Reached default_config st.StartRecord (strip_bom bytes) seen s ys →
    next_record default_config s [] [] ys ≡ None → records_of bytes ≡ seen
unfolding records_from
all_read bytes ys seen s h e =
    let b = begins bytes ys seen s h in
    b.1 ∙ rw e (append-nil seen)

without_mark : (b : Bool) (rest all : List ℕ) → length rest ≤ length all → length (cond b rest all) ≤ length all
without_mark true rest all h = h
without_mark false rest all h = omega arith

-- there are no more bytes without the mark
pub no_longer : (bytes : List ℕ) → length (strip_bom bytes) ≤ length bytes
unfolding strip_bom
no_longer [] = omega arith
no_longer (a ∷ []) = omega arith
no_longer (a ∷ b ∷ []) = omega arith
no_longer (a ∷ b ∷ (c ∷ rest)) = without_mark (is_bom a b c) rest (a ∷ b ∷ (c ∷ rest)) (omega arith)

-- there are no more records than bytes
pub few : (bytes ys : List ℕ) (seen : List (List (List ℕ))) (s : State) → Reached default_config st.StartRecord (strip_bom bytes) seen s ys
    → length seen ≤ length bytes
few bytes ys seen s h =
    let g = (reached-shorter st.StartRecord s (strip_bom bytes) ys seen h refl).0 in
    omega (arith, g, no_longer bytes)

-- ---- one record after the other
records_append : (n : ℕ) (t : Held) (a b : List (List (List ℕ))) →
    with_records n t (a ++ b) ≡ (with_records n t a >>= (λ (m : Held). with_records (n + length a) m b))
unfolding with_records
records_append n t [] b = rw add-zero refl
records_append n t (x ∷ a) b =
    let e : n + 1 + length a ≡ n + suc (length a) = omega arith in
    go (with_fields n t x) e (λ (more : Held). records_append (n + 1) more a b)
  where
    go : (r : Result Held TableFault) → n + 1 + length a ≡ n + suc (length a) →
        ((more : Held) → with_records (n + 1) more (a ++ b) ≡ (with_records (n + 1) more a >>= (λ (m : Held). with_records (n + 1 + length a) m b))) →
        (r >>= (λ (m : Held). with_records (n + 1) m (a ++ b))) ≡ ((r >>= (λ (m : Held). with_records (n + 1) m a)) >>= (λ (m : Held). with_records (n + suc (length a)) m b))
    go (Err f) e later = refl
    go (Ok more) e later = later more ∙ ap (λ (k : ℕ). with_records (n + 1) more a >>= (λ (m : Held). with_records k m b)) e

some_record : (seen more : List (List (List ℕ))) (r : List (List ℕ)) → table_of (seen ++ (r ∷ more)) ≡ with_records 1 nothing (seen ++ (r ∷ more))
unfolding table_of
some_record [] more r = refl
some_record (x ∷ seen) more r = refl

-- what the table is after one more record
one_more : (seen more : List (List (List ℕ))) (r : List (List ℕ)) (t : Held) → with_records 1 nothing seen ≡ Ok t →
    with_records 1 nothing (seen ++ (r ∷ more)) ≡ (with_fields (1 + length seen) t r >>= (λ (m : Held). with_records (1 + length seen + 1) m more))
unfolding with_records
one_more seen more r t h = records_append 1 nothing seen (r ∷ more) ∙ rw h refl

-- the first fault is that of the whole table
pub faulty : (bytes ys : List ℕ) (seen : List (List (List ℕ))) (r : List (List ℕ)) (s : State) (t : Held) (e : TableError) (n : ℕ) →
    Reached default_config st.StartRecord (strip_bom bytes) (seen ++ (r ∷ [])) s ys → with_records 1 nothing seen ≡ Ok t → n ≡ 1 + length seen →
    Explains (with_fields n t r) e → Explains (table_of (records_of bytes)) e
faulty bytes ys seen r s t Memory n h so_far is why = tt
faulty bytes ys seen r s t (Fault f) n h so_far is why =
    let b = begins bytes ys (seen ++ (r ∷ [])) s h in
    let m = records_from default_config (suc b.0) s ys in
    let bad : with_fields (1 + length seen) t r ≡ Err f = rw (← is) why in
    rw (b.1, append_assoc) (some_record seen m r ∙ one_more seen m r t so_far ∙ rw bad refl)

-- the records so far and one more
pub grows : (seen : List (List (List ℕ))) (r : List (List ℕ)) (t more : Held) (n : ℕ) → with_records 1 nothing seen ≡ Ok t → n ≡ 1 + length seen →
    with_fields n t r ≡ Ok more → with_records 1 nothing (seen ++ (r ∷ [])) ≡ Ok more
unfolding with_records
grows seen r t more n h is e =
    let good : with_fields (1 + length seen) t r ≡ Ok more = rw (← is) e in
    one_more seen [] r t h ∙ rw good refl

-- ---- the end
pub no_record : (bytes ys : List ℕ) (seen : List (List (List ℕ))) (s : State) → Reached default_config st.StartRecord (strip_bom bytes) seen s ys →
    next_record default_config s [] [] ys ≡ None → length seen ≡ 0 → table_of (records_of bytes) ≡ Err (Fields 1)
unfolding table_of
no_record bytes ys [] s h e l = rw (all_read bytes ys [] s h e) refl
no_record bytes ys (x ∷ seen) s h e l = absurd (omega (arith, l))

pub complete : (bytes ys : List ℕ) (seen : List (List (List ℕ))) (s : State) (t : Held) → Reached default_config st.StartRecord (strip_bom bytes) seen s ys →
    next_record default_config s [] [] ys ≡ None → with_records 1 nothing seen ≡ Ok t → 0 < length seen → table_of (records_of bytes) ≡ Ok t
complete bytes ys [] s t h e so_far some = absurd (omega (arith, some))
complete bytes ys (x ∷ seen) s t h e so_far some = rw (all_read bytes ys (x ∷ seen) s h e) (some_record [] seen x ∙ so_far)
