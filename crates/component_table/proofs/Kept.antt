-- What a table keeps, record by record.
use Rattle.std.proofs.Common.{◌≡◌, ℕ, ◌+◌, ◌≤◌, ◌^◌, List, [], ◌∷◌, ◌++◌, length, Bool, true, false, ◌||◌, refl, sym, ap, subst, ◌∙◌, ℤ, pos, arith, negsuc, to_z, of_z, w32}
use Rattle.std.specs.Prelude.{Result, Ok, Err, ⊤, cond, codes, unsigned_abs, ◌==◌, nat_lt, nat_le}
use Rattle.std.specs.List.{list_all, list_any}
use Rattle.std.specs.Str.{bytes_eq, is_utf8}
use Rattle.std.proofs.lemmas.Bool.{and_parts, leb-true}
use Rattle.dec_text.specs.Decimals.{decimal_of, signed_decimal_of}
use Rattle.dec_text.specs.declared.faults.DecFault.{DecFault}
use Rattle.case_types.specs.Ranges.{is_critical_temperature, is_critical_pressure, is_acentric_factor, is_interaction}
use Rattle.std.proofs.lemmas.List.{length_push}
use Rattle.std.proofs.lemmas.List.Folds.{list_all-append}
use Rattle.case_words.specs.Answers.{◌>>=◌}
use Rattle.case_words.specs.Names.{name_of, is_name_length}
use Rattle.case_words.proofs.Exports.{when_good, if_good, unless_good, not_refused, same_good, name-long}
use Rattle.component_table.specs.declared.faults.TableFault.{TableFault}
use Rattle.component_table.specs.declared.faults.TableFault.TheVariants.{Fields, Utf8, Kind, Range, Twice, TooMany}
use Rattle.component_table.specs.declared.rows.PairRow.{PairRow}
use Rattle.component_table.specs.declared.rows.CpRow.{CpRow}
use Rattle.component_table.specs.Records.{PlainRow, PlainRecord, PlainComp, PlainPair, PlainCp, field, valued, ranged, is_coefficient, comp_of, pair_of, cp_of, typed_of, record_of}
use Rattle.component_table.specs.Tables.{Held, nothing, has_name, index_in, known, is_pair, is_of, with_places, with_place, with_comp, with_pair, with_cp, with_record, with_fields, with_records}
use Rattle.component_table.specs.Rows.{is_row, is_pair_row}
use Rattle.component_table.specs.Apart.{are_apart, is_named, is_namesake, is_place, is_between, is_same_pair, is_cp_of, is_cp_row, is_same_cp}
use Rattle.component_table.specs.Keeping.{IsSaid, IsKept}
use Rattle.component_table.proofs.Apart.{or_parts, apart-push, all-weaker, none-found, between-more, cp_of-more, known-place}
use Rattle.component_table.proofs.ByKind.{name_at, tc_at, pc_at, w_at, k_at, coefficient_at, nothing_at}
use Rattle.component_table.proofs.Signed.{written-back}

-- ---- a number that is taken is in its range
ranged-good : {A : Type 0} (n f : ℕ) (is_in : A → Bool) (r : Result A DecFault) (a : A) → ranged n f is_in r ≡ Ok a → is_in a ≡ true
ranged-good n f is_in (Ok x) a e =
    let good = when_good (is_in x) x a (Range n f) e in
    ap is_in (sym good.1) ∙ good.0
ranged-good n f is_in (Err fault) a e = absurd (cc)

-- ---- a name has 1 to 16 bytes
named-from : (n f : ℕ) (r : Result (List ℕ) DecFault) (name : List ℕ) → ((x : List ℕ) → r ≡ Ok x → is_name_length x ≡ true)
    → valued n f r ≡ Ok name → is_name_length name ≡ true
named-from n f (Ok x) name long e = long name (ap {B = Result (List ℕ) DecFault} Ok (same_good x name e))
named-from n f (Err fault) name long e = absurd (cc)

named-good : (n f : ℕ) (text name : List ℕ) → name_at n f text ≡ Ok name → is_name_length name ≡ true
named-good n f text name e = named-from n f (name_of text) name (name-long text) e

-- ---- what is said by the fields of each kind
comp-from : (name : Result (List ℕ) TableFault) (tc pc : Result ℕ TableFault) (w : Result ℤ TableFault) (end : Result ⊤ TableFault) (said : PlainRecord)
    → ((x : List ℕ) → name ≡ Ok x → is_name_length x ≡ true)
    → ((x : ℕ) → tc ≡ Ok x → is_critical_temperature x ≡ true) → ((x : ℕ) → pc ≡ Ok x → is_critical_pressure x ≡ true)
    → ((x : ℤ) → w ≡ Ok x → is_acentric_factor x ≡ true)
    → (name >>= (λ n. tc >>= (λ t. pc >>= (λ p. w >>= (λ v. end >>= (λ u. Ok (PlainComp (record { name = n; tc = t; pc = p; w = v })))))))) ≡ Ok said → IsSaid said
comp-from (Err f) tc pc w end said in_n in_t in_p in_w e = absurd (cc)
comp-from (Ok n) (Err f) pc w end said in_n in_t in_p in_w e = absurd (cc)
comp-from (Ok n) (Ok t) (Err f) w end said in_n in_t in_p in_w e = absurd (cc)
comp-from (Ok n) (Ok t) (Ok p) (Err f) end said in_n in_t in_p in_w e = absurd (cc)
comp-from (Ok n) (Ok t) (Ok p) (Ok v) (Err f) said in_n in_t in_p in_w e = absurd (cc)
comp-from (Ok n) (Ok t) (Ok p) (Ok v) (Ok u) said in_n in_t in_p in_w e =
    let is = same_good (PlainComp (record { name = n; tc = t; pc = p; w = v })) said e in
    subst IsSaid is (rw (in_t t refl, in_p p refl, in_w v refl) refl, in_n n refl)

pair-from : (first second : Result (List ℕ) TableFault) (k : Result ℤ TableFault) (fifth sixth : Result ⊤ TableFault) (said : PlainRecord)
    → ((x : ℤ) → k ≡ Ok x → is_interaction x ≡ true)
    → (first >>= (λ a. second >>= (λ b. k >>= (λ v. fifth >>= (λ u. sixth >>= (λ u'. Ok (PlainPair a b v))))))) ≡ Ok said → IsSaid said
pair-from (Err f) second k fifth sixth said in_k e = absurd (cc)
pair-from (Ok a) (Err f) k fifth sixth said in_k e = absurd (cc)
pair-from (Ok a) (Ok b) (Err f) fifth sixth said in_k e = absurd (cc)
pair-from (Ok a) (Ok b) (Ok v) (Err f) sixth said in_k e = absurd (cc)
pair-from (Ok a) (Ok b) (Ok v) (Ok u) (Err f) said in_k e = absurd (cc)
pair-from (Ok a) (Ok b) (Ok v) (Ok u) (Ok u') said in_k e = subst IsSaid (same_good (PlainPair a b v) said e) (in_k v refl)

cp-from : (name : Result (List ℕ) TableFault) (a b c d : Result ℤ TableFault) (said : PlainRecord)
    → ((x : ℤ) → a ≡ Ok x → is_coefficient x ≡ true) → ((x : ℤ) → b ≡ Ok x → is_coefficient x ≡ true)
    → ((x : ℤ) → c ≡ Ok x → is_coefficient x ≡ true) → ((x : ℤ) → d ≡ Ok x → is_coefficient x ≡ true)
    → (name >>= (λ n. a >>= (λ x. b >>= (λ y. c >>= (λ z. d >>= (λ v. Ok (PlainCp n (x ∷ y ∷ z ∷ v ∷ [])))))))) ≡ Ok said → IsSaid said
cp-from (Err f) a b c d said in_a in_b in_c in_d e = absurd (cc)
cp-from (Ok n) (Err f) b c d said in_a in_b in_c in_d e = absurd (cc)
cp-from (Ok n) (Ok x) (Err f) c d said in_a in_b in_c in_d e = absurd (cc)
cp-from (Ok n) (Ok x) (Ok y) (Err f) d said in_a in_b in_c in_d e = absurd (cc)
cp-from (Ok n) (Ok x) (Ok y) (Ok z) (Err f) said in_a in_b in_c in_d e = absurd (cc)
cp-from (Ok n) (Ok x) (Ok y) (Ok z) (Ok v) said in_a in_b in_c in_d e = subst IsSaid (same_good (PlainCp n (x ∷ y ∷ z ∷ v ∷ [])) said e) (rw (in_a x refl, in_b y refl, in_c z refl, in_d v refl) refl)

comp-said : (n : ℕ) (fs : List (List ℕ)) (said : PlainRecord) → comp_of n fs ≡ Ok said → IsSaid said
unfolding comp_of
comp-said n fs said e =
    comp-from (name_at n 2 (field 2 fs)) (tc_at n (field 3 fs)) (pc_at n (field 4 fs)) (w_at n (field 5 fs)) (nothing_at n 6 (field 6 fs)) said
    (named-good n 2 (field 2 fs))
    (ranged-good n 3 is_critical_temperature (decimal_of 3 (10 ^ 15) (field 3 fs)))
    (ranged-good n 4 is_critical_pressure (decimal_of 0 (10 ^ 15) (field 4 fs)))
    (ranged-good n 5 is_acentric_factor (signed_decimal_of 4 (10 ^ 15) (field 5 fs))) e

pair-said : (n : ℕ) (fs : List (List ℕ)) (said : PlainRecord) → pair_of n fs ≡ Ok said → IsSaid said
unfolding pair_of
pair-said n fs said e =
    pair-from (name_at n 2 (field 2 fs)) (name_at n 3 (field 3 fs)) (k_at n (field 4 fs)) (nothing_at n 5 (field 5 fs)) (nothing_at n 6 (field 6 fs)) said
    (ranged-good n 4 is_interaction (signed_decimal_of 4 (10 ^ 15) (field 4 fs))) e

cp-said : (n : ℕ) (fs : List (List ℕ)) (said : PlainRecord) → cp_of n fs ≡ Ok said → IsSaid said
unfolding cp_of
cp-said n fs said e =
    cp-from (name_at n 2 (field 2 fs)) (coefficient_at n 3 (field 3 fs)) (coefficient_at n 4 (field 4 fs)) (coefficient_at n 5 (field 5 fs))
    (coefficient_at n 6 (field 6 fs)) said
    (ranged-good n 3 is_coefficient (signed_decimal_of 3 (10 ^ 15) (field 3 fs))) (ranged-good n 4 is_coefficient (signed_decimal_of 3 (10 ^ 15) (field 4 fs)))
    (ranged-good n 5 is_coefficient (signed_decimal_of 3 (10 ^ 15) (field 5 fs))) (ranged-good n 6 is_coefficient (signed_decimal_of 3 (10 ^ 15) (field 6 fs))) e

typed-from : (a b c : Bool) (comp pair cp : Result PlainRecord TableFault) (said : PlainRecord) (fault : TableFault)
    → (comp ≡ Ok said → IsSaid said) → (pair ≡ Ok said → IsSaid said) → (cp ≡ Ok said → IsSaid said)
    → cond a comp (cond b pair (cond c cp (Err fault))) ≡ Ok said → IsSaid said
typed-from true b c comp pair cp said fault as_comp as_pair as_cp e = as_comp e
typed-from false true c comp pair cp said fault as_comp as_pair as_cp e = as_pair e
typed-from false false true comp pair cp said fault as_comp as_pair as_cp e = as_cp e
typed-from false false false comp pair cp said fault as_comp as_pair as_cp e = absurd (cc)

pub record-said : (n : ℕ) (fs : List (List ℕ)) (said : PlainRecord) → record_of n fs ≡ Ok said → IsSaid said
unfolding record_of
record-said n fs said e =
    let text = if_good (length fs == 6) (cond (list_all is_utf8 fs) (typed_of n fs) (Err (Utf8 n))) said (Fields n) e in
    let typed = if_good (list_all is_utf8 fs) (typed_of n fs) said (Utf8 n) text in
    typed-from (bytes_eq (field 1 fs) (codes "comp")) (bytes_eq (field 1 fs) (codes "k")) (bytes_eq (field 1 fs) (codes "cp"))
    (comp_of n fs) (pair_of n fs) (cp_of n fs) said (Kind n) (comp-said n fs said) (pair-said n fs said) (cp-said n fs said) typed

-- ---- the number of an interaction as it is kept
pub interaction-small : (k : ℤ) → is_interaction k ≡ true → unsigned_abs k ≤ 10000000
interaction-small (pos n) e = omega (arith, leb-true n 5000 (and_parts true (nat_le n 5000) e).1)
interaction-small (negsuc n) e = omega (arith, leb-true n 4999 (and_parts (nat_le n 4999) true e).0)

pub pair-back : (n : ℕ) (fs : List (List ℕ)) (first second : List ℕ) (k : ℤ) → record_of n fs ≡ Ok (PlainPair first second k)
    → to_z w32 (of_z w32 k) ≡ k
pair-back n fs first second k e = written-back k (interaction-small k (record-said n fs (PlainPair first second k) e))

-- ---- one item more of a list that passes
pub all-push : {X : Type 0} (p : X → Bool) (xs : List X) (x : X) → list_all p xs ≡ true → p x ≡ true → list_all p (xs ++ x ∷ []) ≡ true
all-push p xs x before here = rw (list_all-append p xs (x ∷ []), before, here) refl

-- ---- each record keeps it
kept-comp : (n : ℕ) (t more : Held) (row : PlainRow) → with_comp n t row ≡ Ok more → IsSaid (PlainComp row) → IsKept t → IsKept more
unfolding with_comp
kept-comp n t more row e said k =
    let with_it : Held = record t { comps = t.comps ++ row ∷ [] } in
    let rest = cond (nat_le 256 (length t.comps)) (Err (TooMany n)) (Ok with_it) in
    let new = unless_good (nat_lt (index_in t.comps row.name) (length t.comps)) rest more (Twice n) e in
    let room = unless_good (nat_le 256 (length t.comps)) (Ok with_it) more (TooMany n) new in
    let other = none-found (has_name row.name) t.comps (not_refused (nat_lt (index_in t.comps row.name) (length t.comps)) rest more (Twice n) e) in
    let count = length_push t.comps row in
    subst IsKept (same_good with_it more room) (record {
      rows = all-push is_row t.comps row k.rows said.0;
      named = all-push is_named t.comps row k.named said.1;
      names = apart-push is_namesake t.comps row k.names other;
      interactions = k.interactions;
      pair_places = rw count (all-weaker (is_between (length t.comps)) (is_between (length t.comps + 1)) t.pairs (between-more (length t.comps)) k.pair_places);
      once = k.once;
      coefficients = k.coefficients;
      cp_places = rw count (all-weaker (is_cp_of (length t.comps)) (is_cp_of (length t.comps + 1)) t.cps (cp_of-more (length t.comps)) k.cp_places);
      cp_once = k.cp_once;
    })

pair-kept : (n : ℕ) (t more : Held) (first second : Result ℕ TableFault) (k : ℤ)
    → ((i : ℕ) → first ≡ Ok i → is_place (length t.comps) i ≡ true) → ((j : ℕ) → second ≡ Ok j → is_place (length t.comps) j ≡ true)
    → (first >>= (λ (i : ℕ). second >>= (λ (j : ℕ). with_places n t i j k))) ≡ Ok more → is_interaction k ≡ true → IsKept t → IsKept more
pair-kept n t more (Err f) second k at at' e in_k kept = absurd (cc)
pair-kept n t more (Ok i) (Err f) k at at' e in_k kept = absurd (cc)
pair-kept n t more (Ok i) (Ok j) k at at' e in_k kept =
    let pair : PairRow = record { i = i; j = j; k = k } in
    let with_it : Held = record t { pairs = t.pairs ++ pair ∷ [] } in
    let new = unless_good (i == j || list_any (is_pair i j) t.pairs) (Ok with_it) more (Twice n) e in
    let apart = or_parts (i == j) (list_any (is_pair i j) t.pairs) (not_refused (i == j || list_any (is_pair i j) t.pairs) (Ok with_it) more (Twice n) e) in
    subst IsKept (same_good with_it more new) (record {
      rows = kept.rows;
      named = kept.named;
      names = kept.names;
      interactions = all-push is_pair_row t.pairs pair kept.interactions in_k;
      pair_places = all-push (is_between (length t.comps)) t.pairs pair kept.pair_places (rw (at i refl, at' j refl, apart.0) refl);
      once = apart-push is_same_pair t.pairs pair kept.once apart.1;
      coefficients = kept.coefficients;
      cp_places = kept.cp_places;
      cp_once = kept.cp_once;
    })

cp-kept : (n : ℕ) (t more : Held) (at : Result ℕ TableFault) (cp : List ℤ) → ((i : ℕ) → at ≡ Ok i → is_place (length t.comps) i ≡ true)
    → (at >>= (λ (i : ℕ). with_place n t i cp)) ≡ Ok more → list_all is_coefficient cp ≡ true → IsKept t → IsKept more
cp-kept n t more (Err f) cp there e in_cp kept = absurd (cc)
cp-kept n t more (Ok i) cp there e in_cp kept =
    let row : CpRow = record { i = i; cp = cp } in
    let with_it : Held = record t { cps = t.cps ++ row ∷ [] } in
    let new = unless_good (list_any (is_of i) t.cps) (Ok with_it) more (Twice n) e in
    let other = not_refused (list_any (is_of i) t.cps) (Ok with_it) more (Twice n) e in
    subst IsKept (same_good with_it more new) (record {
      rows = kept.rows;
      named = kept.named;
      names = kept.names;
      interactions = kept.interactions;
      pair_places = kept.pair_places;
      once = kept.once;
      coefficients = all-push is_cp_row t.cps row kept.coefficients in_cp;
      cp_places = all-push (is_cp_of (length t.comps)) t.cps row kept.cp_places (there i refl);
      cp_once = apart-push is_same_cp t.cps row kept.cp_once other;
    })

kept-record : (n : ℕ) (t more : Held) (said : PlainRecord) → with_record n t said ≡ Ok more → IsSaid said → IsKept t → IsKept more
unfolding with_pair with_cp
kept-record n t more (PlainComp row) e in_range kept = kept-comp n t more row e in_range kept
kept-record n t more (PlainPair first second k) e in_range kept = pair-kept n t more (known n t.comps first) (known n t.comps second) k
    (known-place n t.comps first) (known-place n t.comps second) e in_range kept
kept-record n t more (PlainCp name cp) e in_range kept = cp-kept n t more (known n t.comps name) cp (known-place n t.comps name) e in_range kept

fields-kept : (n : ℕ) (t more : Held) (said : Result PlainRecord TableFault) → ((r : PlainRecord) → said ≡ Ok r → IsSaid r)
    → (said >>= with_record n t) ≡ Ok more → IsKept t → IsKept more
fields-kept n t more (Err f) in_range e kept = absurd (cc)
fields-kept n t more (Ok r) in_range e kept = kept-record n t more r e (in_range r refl) kept

kept-fields : (n : ℕ) (t more : Held) (fs : List (List ℕ)) → with_fields n t fs ≡ Ok more → IsKept t → IsKept more
unfolding with_fields
kept-fields n t more fs e kept = fields-kept n t more (record_of n fs) (record-said n fs) e kept

-- ---- so do all records
pub kept-records : (n : ℕ) (t more : Held) (rs : List (List (List ℕ))) → with_records n t rs ≡ Ok more → IsKept t → IsKept more
unfolding with_records
kept-records n t more [] e kept = subst IsKept (same_good t more e) kept
kept-records n t more (fs ∷ rs) e kept =
    go (with_fields n t fs) (λ (m : Held) (h : with_fields n t fs ≡ Ok m). kept-fields n t m fs h kept) (λ (m : Held). kept-records (n + 1) m more rs) e
  where
    go : (r : Result Held TableFault) → ((m : Held) → r ≡ Ok m → IsKept m) → ((m : Held) → with_records (n + 1) m rs ≡ Ok more → IsKept m → IsKept more)
        → (r >>= (λ (m : Held). with_records (n + 1) m rs)) ≡ Ok more → IsKept more
    go (Err f) here later e = absurd (cc)
    go (Ok m) here later e = later m e (here m refl)

pub kept-nothing : IsKept nothing
unfolding are_apart
kept-nothing = record { rows = refl; named = refl; names = refl; interactions = refl; pair_places = refl; once = refl; coefficients = refl; cp_places = refl; cp_once = refl }
