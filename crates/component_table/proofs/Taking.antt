-- One record more, test by test.
use Rattle.std.proofs.Common.{◌≡◌, ◌≢◌, ℕ, ◌<◌, ◌≤◌, List, [], ◌∷◌, ◌++◌, length, Bool, true, false, refl, ℤ}
use Rattle.std.specs.Prelude.{Ok, Err, nat_lt, ◌==◌, codes}
use Rattle.std.specs.List.{list_any, list_all}
use Rattle.std.specs.Str.{bytes_eq, is_utf8}
use Rattle.std.proofs.lemmas.Bool.{lt-ltb, le-ltb, le-leb, lt-leb, eq-eqb, eqb-true}
use Rattle.std.proofs.Math.Bool.{or-true}
use Rattle.component_table.specs.declared.faults.TableFault.{TableFault}
use Rattle.component_table.specs.declared.faults.TableFault.TheVariants.{Fields, Utf8, Kind, Twice, TooMany}
use Rattle.component_table.specs.Records.{PlainRow, PlainRecord, field, comp_of, pair_of, cp_of, record_of}
use Rattle.component_table.specs.Tables.{Held, index_in, known, is_pair, is_of, with_comp, with_pair, with_cp, with_record, with_fields}

pub different : (a b : ℕ) → a ≢ b → (a == b) ≡ false
different a b other = go (a == b) refl
  where
    go : (r : Bool) → (a == b) ≡ r → (a == b) ≡ false
    go true e = absurd (other (eqb-true a b e))
    go false e = e

-- ---- six fields of text, of one of three kinds
pub record-fields : (n : ℕ) (fs : List (List ℕ)) → length fs ≢ 6 → record_of n fs ≡ Err (Fields n)
unfolding record_of
record-fields n fs other = let e : (length fs == 6) ≡ false = different (length fs) 6 other in rw e refl

pub record-utf8 : (n : ℕ) (fs : List (List ℕ)) → length fs ≡ 6 → list_all is_utf8 fs ≡ false → record_of n fs ≡ Err (Utf8 n)
unfolding record_of
record-utf8 n fs six bad = let e : (length fs == 6) ≡ true = eq-eqb (length fs) 6 six in rw (e, bad) refl

pub record-comp : (n : ℕ) (fs : List (List ℕ)) → length fs ≡ 6 → list_all is_utf8 fs ≡ true → bytes_eq (field 1 fs) (codes "comp") ≡ true
    → record_of n fs ≡ comp_of n fs
unfolding record_of
record-comp n fs six text is = let e : (length fs == 6) ≡ true = eq-eqb (length fs) 6 six in rw (e, text, is) refl

pub record-pair : (n : ℕ) (fs : List (List ℕ)) → length fs ≡ 6 → list_all is_utf8 fs ≡ true → bytes_eq (field 1 fs) (codes "comp") ≡ false
    → bytes_eq (field 1 fs) (codes "k") ≡ true → record_of n fs ≡ pair_of n fs
unfolding record_of
record-pair n fs six text other is = let e : (length fs == 6) ≡ true = eq-eqb (length fs) 6 six in rw (e, text, other, is) refl

pub record-cp : (n : ℕ) (fs : List (List ℕ)) → length fs ≡ 6 → list_all is_utf8 fs ≡ true → bytes_eq (field 1 fs) (codes "comp") ≡ false
    → bytes_eq (field 1 fs) (codes "k") ≡ false → bytes_eq (field 1 fs) (codes "cp") ≡ true → record_of n fs ≡ cp_of n fs
unfolding record_of
record-cp n fs six text other other' is = let e : (length fs == 6) ≡ true = eq-eqb (length fs) 6 six in rw (e, text, other, other', is) refl

pub record-kind : (n : ℕ) (fs : List (List ℕ)) → length fs ≡ 6 → list_all is_utf8 fs ≡ true → bytes_eq (field 1 fs) (codes "comp") ≡ false
    → bytes_eq (field 1 fs) (codes "k") ≡ false → bytes_eq (field 1 fs) (codes "cp") ≡ false → record_of n fs ≡ Err (Kind n)
unfolding record_of
record-kind n fs six text other other' last = let e : (length fs == 6) ≡ true = eq-eqb (length fs) 6 six in rw (e, text, other, other', last) refl

-- ---- a component
pub comp-stands : (n : ℕ) (t : Held) (row : PlainRow) (i : ℕ) → i ≡ index_in t.comps row.name → i < length t.comps → with_comp n t row ≡ Err (Twice n)
unfolding with_comp
comp-stands n t row i is inside =
    let e : nat_lt (index_in t.comps row.name) (length t.comps) ≡ true = rw (← is) (lt-ltb i (length t.comps) inside) in
    rw e refl

pub comp-full : (n : ℕ) (t : Held) (row : PlainRow) (i : ℕ) → i ≡ index_in t.comps row.name → length t.comps ≤ i → 256 ≤ length t.comps
    → with_comp n t row ≡ Err (TooMany n)
unfolding with_comp
comp-full n t row i is new full =
    let e : nat_lt (index_in t.comps row.name) (length t.comps) ≡ false = rw (← is) (le-ltb i (length t.comps) new) in
    rw (e, le-leb 256 (length t.comps) full) refl

pub comp-taken : (n : ℕ) (t : Held) (row : PlainRow) (i : ℕ) → i ≡ index_in t.comps row.name → length t.comps ≤ i → length t.comps < 256
    → with_comp n t row ≡ Ok (record t { comps = t.comps ++ row ∷ [] })
unfolding with_comp
comp-taken n t row i is new room =
    let e : nat_lt (index_in t.comps row.name) (length t.comps) ≡ false = rw (← is) (le-ltb i (length t.comps) new) in
    rw (e, lt-leb 256 (length t.comps) room) refl

-- ---- an interaction
pub pair-unknown : (n : ℕ) (t : Held) (first second : List ℕ) (k : ℤ) (fault : TableFault) → known n t.comps first ≡ Err fault
    → with_pair n t first second k ≡ Err fault
unfolding with_pair
pair-unknown n t first second k fault e = rw e refl

pub pair-second_unknown : (n : ℕ) (t : Held) (first second : List ℕ) (k : ℤ) (i : ℕ) (fault : TableFault) → known n t.comps first ≡ Ok i
    → known n t.comps second ≡ Err fault → with_pair n t first second k ≡ Err fault
unfolding with_pair
pair-second_unknown n t first second k i fault is e = rw (is, e) refl

pub pair-same : (n : ℕ) (t : Held) (first second : List ℕ) (k : ℤ) (i j : ℕ) → known n t.comps first ≡ Ok i → known n t.comps second ≡ Ok j
    → i ≡ j → with_pair n t first second k ≡ Err (Twice n)
unfolding with_pair
pair-same n t first second k i j is is_j same = let e : (i == j) ≡ true = eq-eqb i j same in rw (is, is_j, e) refl

pub pair-stands : (n : ℕ) (t : Held) (first second : List ℕ) (k : ℤ) (i j : ℕ) → known n t.comps first ≡ Ok i → known n t.comps second ≡ Ok j
    → list_any (is_pair i j) t.pairs ≡ true → with_pair n t first second k ≡ Err (Twice n)
unfolding with_pair
pair-stands n t first second k i j is is_j e = rw (is, is_j, e, or-true (i == j)) refl

pub pair-taken : (n : ℕ) (t : Held) (first second : List ℕ) (k : ℤ) (i j : ℕ) → known n t.comps first ≡ Ok i → known n t.comps second ≡ Ok j
    → i ≢ j → list_any (is_pair i j) t.pairs ≡ false
    → with_pair n t first second k ≡ Ok (record t { pairs = t.pairs ++ record { i = i; j = j; k = k } ∷ [] })
unfolding with_pair
pair-taken n t first second k i j is is_j differ new = let e : (i == j) ≡ false = different i j differ in rw (is, is_j, e, new) refl

-- ---- a heat capacity
pub cp-unknown : (n : ℕ) (t : Held) (name : List ℕ) (cp : List ℤ) (fault : TableFault) → known n t.comps name ≡ Err fault → with_cp n t name cp ≡ Err fault
unfolding with_cp
cp-unknown n t name cp fault e = rw e refl

pub cp-stands : (n : ℕ) (t : Held) (name : List ℕ) (cp : List ℤ) (i : ℕ) → known n t.comps name ≡ Ok i → list_any (is_of i) t.cps ≡ true
    → with_cp n t name cp ≡ Err (Twice n)
unfolding with_cp
cp-stands n t name cp i is e = rw (is, e) refl

pub cp-taken : (n : ℕ) (t : Held) (name : List ℕ) (cp : List ℤ) (i : ℕ) → known n t.comps name ≡ Ok i → list_any (is_of i) t.cps ≡ false
    → with_cp n t name cp ≡ Ok (record t { cps = t.cps ++ record { i = i; cp = cp } ∷ [] })
unfolding with_cp
cp-taken n t name cp i is new = rw (is, new) refl

-- ---- what a record says
pub fields-said : (n : ℕ) (t : Held) (fs : List (List ℕ)) (said : PlainRecord) → record_of n fs ≡ Ok said → with_fields n t fs ≡ with_record n t said
unfolding with_fields
fields-said n t fs said e = rw e refl

pub fields-fault : (n : ℕ) (t : Held) (fs : List (List ℕ)) (fault : TableFault) → record_of n fs ≡ Err fault → with_fields n t fs ≡ Err fault
unfolding with_fields
fields-fault n t fs fault e = rw e refl
