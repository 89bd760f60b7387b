-- Live names one after the other, and the interactions of their components.
use Rattle.std.proofs.Common.{◌≡◌, ◌≢◌, ℕ, zero, suc, ◌+◌, ◌-◌, ◌<◌, ◌≤◌, List, [], ◌∷◌, length, get_or, drop, map, Bool, true, false, ◌&&◌, refl, sym, ap, ◌∙◌, ℤ, pos, arith}
use Rattle.std.specs.Prelude.{Ok, Err, nat_le, nat_lt, ◌==◌, cond, int_le}
use Rattle.std.specs.List.{list_all, sum}
use Rattle.std.proofs.lemmas.Bool.{eq-eqb, eqb-true, eqb-false, lt-ltb, le-ltb, and_parts}
use Rattle.std.proofs.Math.Bool.{or_comm}
use Rattle.std.proofs.lemmas.List.{drop_more, drop_all}
use Rattle.case_types.specs.Ranges.{is_interaction, are_interactions, entry, is_critical_temperature, is_critical_pressure, is_acentric_factor}
use Rattle.case_types.specs.declared.cases.Row.{Row}
use Rattle.log_laws.specs.Sums.{all_below, sum_below}
use Rattle.component_table.specs.declared.cases.CaseFault.TheVariants.{NoName}
use Rattle.component_table.specs.declared.rows.PairRow.{PairRow}
use Rattle.component_table.specs.Records.{PlainRow}
use Rattle.component_table.specs.Rows.{plain_row, is_row, is_pair_row}
use Rattle.component_table.specs.Tables.{index_in, is_pair}
use Rattle.component_table.specs.Choosing.{PlainChosen, with_part, with_names, four, no_row, row_in, first_k, interaction_of}
use Rattle.component_table.proofs.Taking.{different}

-- ---- one name more
pub names-more : (i : ℕ) (comps : List PlainRow) (c : PlainChosen) (names : List (List ℕ)) (parts : List ℕ) (at : ℕ) → i < length names
    → at ≡ index_in comps (get_or names i []) → at < length comps
    → with_names i comps c (drop i names) parts ≡ with_names (i + 1) comps (with_part i c (at + 1) (get_or parts i 0)) (drop (i + 1) names) parts
unfolding with_names
names-more i comps c names parts at inside is there =
    let e : nat_lt (index_in comps (get_or names i [])) (length comps) ≡ true = rw (← is) (lt-ltb at (length comps) there) in
    rw (drop_more names i [] inside, e, ← is) refl

pub names-stop : (i : ℕ) (comps : List PlainRow) (c : PlainChosen) (names : List (List ℕ)) (parts : List ℕ) (at : ℕ) → i < length names
    → at ≡ index_in comps (get_or names i []) → length comps ≤ at → with_names i comps c (drop i names) parts ≡ Err (NoName (i + 1))
unfolding with_names
names-stop i comps c names parts at inside is none =
    let e : nat_lt (index_in comps (get_or names i [])) (length comps) ≡ false = rw (← is) (le-ltb at (length comps) none) in
    rw (drop_more names i [] inside, e) refl

pub names-end : (i : ℕ) (comps : List PlainRow) (c : PlainChosen) (names : List (List ℕ)) (parts : List ℕ) → length names ≤ i
    → with_names i comps c (drop i names) parts ≡ Ok c
unfolding with_names
names-end i comps c names parts end = rw (drop_all i names end) refl

-- ---- the first interaction that passes, one by one
pub k-here : (p : PairRow → Bool) (pairs : List PairRow) (i : ℕ) (d : PairRow) → i < length pairs → p (get_or pairs i d) ≡ true
    → first_k p (drop i pairs) ≡ (get_or pairs i d).k
unfolding first_k
k-here p pairs i d inside same = rw (drop_more pairs i d inside, same) refl

pub k-more : (p : PairRow → Bool) (pairs : List PairRow) (i : ℕ) (d : PairRow) → i < length pairs → p (get_or pairs i d) ≡ false
    → first_k p (drop i pairs) ≡ first_k p (drop (i + 1) pairs)
unfolding first_k
k-more p pairs i d inside other = rw (drop_more pairs i d inside, other) refl

pub k-end : (p : PairRow → Bool) (pairs : List PairRow) (i : ℕ) → length pairs ≤ i → first_k p (drop i pairs) ≡ pos 0
unfolding first_k
k-end p pairs i end = rw (drop_all i pairs end) refl

-- ---- the interaction of two places
pub of-two : (pairs : List PairRow) (i j : ℕ) → i ≢ j → interaction_of pairs i j ≡ first_k (is_pair i j) pairs
of-two pairs i j differ = rw (different i j differ) refl

pub of-one : (pairs : List PairRow) (i : ℕ) → interaction_of pairs i i ≡ pos 0
of-one pairs i = rw (eq-eqb i i refl) refl

either : (b : Bool) (x y : ℤ) → is_interaction x ≡ true → is_interaction y ≡ true → is_interaction (cond b x y) ≡ true
either true x y h g = h
either false x y h g = g

k-in_range : (p : PairRow → Bool) (pairs : List PairRow) → list_all is_pair_row pairs ≡ true → is_interaction (first_k p pairs) ≡ true
unfolding first_k
k-in_range p [] all = refl
k-in_range p (x ∷ xs) all =
    let parts = and_parts (is_pair_row x) (list_all is_pair_row xs) all in
    either (p x) x.k (first_k p xs) parts.0 (k-in_range p xs parts.1)

pub in_range : (pairs : List PairRow) (i j : ℕ) → list_all is_pair_row pairs ≡ true → is_interaction (interaction_of pairs i j) ≡ true
in_range pairs i j all = either (i == j) (pos 0) (first_k (is_pair i j) pairs) refl (k-in_range (is_pair i j) pairs all)

k-turned : (i j : ℕ) (pairs : List PairRow) → first_k (is_pair i j) pairs ≡ first_k (is_pair j i) pairs
unfolding first_k
k-turned i j [] = refl
k-turned i j (x ∷ xs) =
    let turned = or_comm (x.i == i && x.j == j) (x.i == j && x.j == i) in
    rw (turned, k-turned i j xs) refl

same-test : (i j : ℕ) → (i == j) ≡ (j == i)
same-test i j = go (i == j) refl
  where
    go : (b : Bool) → (i == j) ≡ b → (i == j) ≡ (j == i)
    go true e = let s : i ≡ j = eqb-true i j e in rw s refl
    go false e = e ∙ sym (different j i (λ s. eqb-false i j e (sym s)))

pub turned : (pairs : List PairRow) (i j : ℕ) → interaction_of pairs i j ≡ interaction_of pairs j i
turned pairs i j =
    ap (λ (b : Bool). cond b (pos 0) (first_k (is_pair i j) pairs)) (same-test i j)
    ∙ ap (cond (j == i) (pos 0)) (k-turned i j pairs)

-- ---- four of a kind
int_le_refl : (x : ℤ) → int_le x x ≡ true
int_le_refl x = grind arith

cell : (x y : ℤ) → is_interaction x ≡ true → x ≡ y → (is_interaction x && int_le x y) ≡ true
cell x y h e = rw (h, ← e) (int_le_refl x)

corner : (x : ℤ) → x ≡ pos 0 → (int_le x (pos 0) && int_le (pos 0) x) ≡ true
corner x e = rw e refl

all_four : (p : ℕ → Bool) → p 0 ≡ true → p 1 ≡ true → p 2 ≡ true → p 3 ≡ true → all_below 4 p ≡ true
all_four p a b c d = rw (a, b, c, d) refl

both : (a b : Bool) → a ≡ true → b ≡ true → (a && b) ≡ true
both a b p q = rw (p, q) refl

pub four-interactions : (f : ℕ → ℕ → ℤ) → ((i j : ℕ) → is_interaction (f i j) ≡ true) → ((i j : ℕ) → f i j ≡ f j i) → ((i : ℕ) → f i i ≡ pos 0)
    → are_interactions (four (λ i. four (λ j. f i j))) ≡ true
four-interactions f range same none =
    both (all_below 4 (λ i. all_below 4 (λ j. is_interaction (entry (four (λ i. four (λ j. f i j))) i j) && int_le (entry (four (λ i. four (λ j. f i j))) i j) (entry (four (λ i. four (λ j. f i j))) j i))))
    (all_below 4 (λ i. int_le (entry (four (λ i. four (λ j. f i j))) i i) (pos 0) && int_le (pos 0) (entry (four (λ i. four (λ j. f i j))) i i)))
    (all_four (λ i. all_below 4 (λ j. is_interaction (entry (four (λ i. four (λ j. f i j))) i j) && int_le (entry (four (λ i. four (λ j. f i j))) i j) (entry (four (λ i. four (λ j. f i j))) j i)))
    (line 0 (cell (f 0 0) (f 0 0) (range 0 0) (same 0 0)) (cell (f 0 1) (f 1 0) (range 0 1) (same 0 1)) (cell (f 0 2) (f 2 0) (range 0 2) (same 0 2)) (cell (f 0 3) (f 3 0) (range 0 3) (same 0 3)))
    (line 1 (cell (f 1 0) (f 0 1) (range 1 0) (same 1 0)) (cell (f 1 1) (f 1 1) (range 1 1) (same 1 1)) (cell (f 1 2) (f 2 1) (range 1 2) (same 1 2)) (cell (f 1 3) (f 3 1) (range 1 3) (same 1 3)))
    (line 2 (cell (f 2 0) (f 0 2) (range 2 0) (same 2 0)) (cell (f 2 1) (f 1 2) (range 2 1) (same 2 1)) (cell (f 2 2) (f 2 2) (range 2 2) (same 2 2)) (cell (f 2 3) (f 3 2) (range 2 3) (same 2 3)))
    (line 3 (cell (f 3 0) (f 0 3) (range 3 0) (same 3 0)) (cell (f 3 1) (f 1 3) (range 3 1) (same 3 1)) (cell (f 3 2) (f 2 3) (range 3 2) (same 3 2)) (cell (f 3 3) (f 3 3) (range 3 3) (same 3 3))))
    (all_four (λ i. int_le (entry (four (λ i. four (λ j. f i j))) i i) (pos 0) && int_le (pos 0) (entry (four (λ i. four (λ j. f i j))) i i))
    (corner (f 0 0) (none 0)) (corner (f 1 1) (none 1)) (corner (f 2 2) (none 2)) (corner (f 3 3) (none 3)))
  where
    line : (i : ℕ) → (is_interaction (entry (four (λ i. four (λ j. f i j))) i 0) && int_le (entry (four (λ i. four (λ j. f i j))) i 0) (entry (four (λ i. four (λ j. f i j))) 0 i)) ≡ true
        → (is_interaction (entry (four (λ i. four (λ j. f i j))) i 1) && int_le (entry (four (λ i. four (λ j. f i j))) i 1) (entry (four (λ i. four (λ j. f i j))) 1 i)) ≡ true
        → (is_interaction (entry (four (λ i. four (λ j. f i j))) i 2) && int_le (entry (four (λ i. four (λ j. f i j))) i 2) (entry (four (λ i. four (λ j. f i j))) 2 i)) ≡ true
        → (is_interaction (entry (four (λ i. four (λ j. f i j))) i 3) && int_le (entry (four (λ i. four (λ j. f i j))) i 3) (entry (four (λ i. four (λ j. f i j))) 3 i)) ≡ true
        → all_below 4 (λ j. is_interaction (entry (four (λ i. four (λ j. f i j))) i j) && int_le (entry (four (λ i. four (λ j. f i j))) i j) (entry (four (λ i. four (λ j. f i j))) j i)) ≡ true
    line i a b c d = all_four (λ j. is_interaction (entry (four (λ i. four (λ j. f i j))) i j) && int_le (entry (four (λ i. four (λ j. f i j))) i j) (entry (four (λ i. four (λ j. f i j))) j i)) a b c d

-- a test of the first of four
pub first-pass : (n : ℕ) (p : ℕ → Bool) → n ≤ 4 → p 0 ≡ true → p 1 ≡ true → p 2 ≡ true → p 3 ≡ true → all_below n p ≡ true
first-pass zero p h a b c d = refl
first-pass (suc zero) p h a b c d = rw a refl
first-pass (suc (suc zero)) p h a b c d = rw (a, b) refl
first-pass (suc (suc (suc zero))) p h a b c d = rw (a, b, c) refl
first-pass (suc (suc (suc (suc zero)))) p h a b c d = rw (a, b, c, d) refl
first-pass (suc (suc (suc (suc (suc n))))) p h a b c d = absurd (omega (arith, h))

-- ---- the parts of the live names
pub parts-live : (parts : List ℕ) → length parts ≤ 4 → list_all (nat_le 1) parts ≡ true
    → all_below (length parts) (λ i. nat_le 1 (get_or (four (λ k. get_or parts k 0)) i 0)) ≡ true
parts-live [] few all = refl
parts-live (a ∷ []) few all = (and_parts (nat_le 1 a) true all).0
parts-live (a ∷ b ∷ []) few all =
    let p = and_parts (nat_le 1 a) (nat_le 1 b && true) all in
    let q = and_parts (nat_le 1 b) true p.1 in
    rw (p.0, q.0) refl
parts-live (a ∷ b ∷ (c ∷ [])) few all =
    let p = and_parts (nat_le 1 a) (nat_le 1 b && (nat_le 1 c && true)) all in
    let q = and_parts (nat_le 1 b) (nat_le 1 c && true) p.1 in
    let r = and_parts (nat_le 1 c) true q.1 in
    rw (p.0, q.0, r.0) refl
parts-live (a ∷ b ∷ (c ∷ (d ∷ []))) few all =
    let p = and_parts (nat_le 1 a) (nat_le 1 b && (nat_le 1 c && (nat_le 1 d && true))) all in
    let q = and_parts (nat_le 1 b) (nat_le 1 c && (nat_le 1 d && true)) p.1 in
    let r = and_parts (nat_le 1 c) (nat_le 1 d && true) q.1 in
    let s = and_parts (nat_le 1 d) true r.1 in
    rw (p.0, q.0, r.0, s.0) refl
parts-live (a ∷ b ∷ (c ∷ (d ∷ (e ∷ more)))) few all = absurd (omega (arith, few))

pub parts-added : (parts : List ℕ) → length parts ≤ 4 → sum_below (length parts) (λ i. get_or (four (λ k. get_or parts k 0)) i 0) ≡ sum parts
parts-added [] few = refl
parts-added (a ∷ []) few = omega arith
parts-added (a ∷ b ∷ []) few = omega arith
parts-added (a ∷ b ∷ (c ∷ [])) few = omega arith
parts-added (a ∷ b ∷ (c ∷ (d ∷ []))) few = omega arith
parts-added (a ∷ b ∷ (c ∷ (d ∷ (e ∷ more)))) few = absurd (omega (arith, few))

pub parts-some : (parts : List ℕ) → 1 ≤ sum parts → 1 ≤ length parts
parts-some [] some = absurd (omega (arith, some))
parts-some (a ∷ parts) some = omega arith

-- ---- components at places
passes-at : {X : Type 0} (p : X → Bool) (xs : List X) (i : ℕ) (d : X) → list_all p xs ≡ true → p d ≡ true → p (get_or xs i d) ≡ true
passes-at p [] i d all none = none
passes-at p (x ∷ xs) zero d all none = (and_parts (p x) (list_all p xs) all).0
passes-at p (x ∷ xs) (suc i) d all none = passes-at p xs i d (and_parts (p x) (list_all p xs) all).1 none

one_of : {X : Type 0} (p : X → Bool) (b : Bool) (x y : X) → p x ≡ true → p y ≡ true → p (cond b x y) ≡ true
one_of p true x y h g = h
one_of p false x y h g = g

pub row-in_range : (comps : List PlainRow) (place : ℕ) → list_all is_row comps ≡ true → is_row (row_in comps place) ≡ true
row-in_range comps place all = one_of is_row (nat_le 1 place) (get_or comps (place - 1) no_row) no_row (passes-at is_row comps (place - 1) no_row all refl) refl

map-plain : {X : Type 0} (g : PlainRow → X) (rows : List Row) → map (λ (r : Row). g (plain_row r)) rows ≡ map g (map plain_row rows)
map-plain g [] = refl
map-plain g (r ∷ rows) = ap (λ t. g (plain_row r) ∷ t) (map-plain g rows)

-- the ranges of four components
pub rows-tc : (rows : List Row) (f : ℕ → PlainRow) (n : ℕ) → n ≤ 4 → map plain_row rows ≡ four f → ((i : ℕ) → is_row (f i) ≡ true)
    → all_below n (λ i. is_critical_temperature (get_or (map (λ (r : Row). r.tc) rows) i 0)) ≡ true
rows-tc rows f n few is all =
    let test : PlainRow → Bool = λ r. is_critical_temperature r.tc in
    let good : (i : ℕ) → test (f i) ≡ true = λ i. (and_parts (test (f i)) (is_critical_pressure (f i).pc && is_acentric_factor (f i).w) (all i)).0 in
    ap (λ (xs : List ℕ). all_below n (λ i. is_critical_temperature (get_or xs i 0))) (map-plain (λ (r : PlainRow). r.tc) rows ∙ ap (map (λ (r : PlainRow). r.tc)) is)
    ∙ first-pass n (λ i. is_critical_temperature (get_or (four (λ k. (f k).tc)) i 0)) few (good 0) (good 1) (good 2) (good 3)

pub rows-pc : (rows : List Row) (f : ℕ → PlainRow) (n : ℕ) → n ≤ 4 → map plain_row rows ≡ four f → ((i : ℕ) → is_row (f i) ≡ true)
    → all_below n (λ i. is_critical_pressure (get_or (map (λ (r : Row). r.pc) rows) i 0)) ≡ true
rows-pc rows f n few is all =
    let test : PlainRow → Bool = λ r. is_critical_pressure r.pc in
    let good : (i : ℕ) → test (f i) ≡ true = λ i. (and_parts (test (f i)) (is_acentric_factor (f i).w)
    (and_parts (is_critical_temperature (f i).tc) (test (f i) && is_acentric_factor (f i).w) (all i)).1).0 in
    ap (λ (xs : List ℕ). all_below n (λ i. is_critical_pressure (get_or xs i 0))) (map-plain (λ (r : PlainRow). r.pc) rows ∙ ap (map (λ (r : PlainRow). r.pc)) is)
    ∙ first-pass n (λ i. is_critical_pressure (get_or (four (λ k. (f k).pc)) i 0)) few (good 0) (good 1) (good 2) (good 3)

pub rows-w : (rows : List Row) (f : ℕ → PlainRow) (n : ℕ) → n ≤ 4 → map plain_row rows ≡ four f → ((i : ℕ) → is_row (f i) ≡ true)
    → all_below n (λ i. is_acentric_factor (get_or (map (λ (r : Row). r.w) rows) i (pos 0))) ≡ true
rows-w rows f n few is all =
    let test : PlainRow → Bool = λ r. is_acentric_factor r.w in
    let good : (i : ℕ) → test (f i) ≡ true = λ i. (and_parts (is_critical_pressure (f i).pc) (test (f i))
    (and_parts (is_critical_temperature (f i).tc) (is_critical_pressure (f i).pc && test (f i)) (all i)).1).1 in
    ap (λ (xs : List ℤ). all_below n (λ i. is_acentric_factor (get_or xs i (pos 0)))) (map-plain (λ (r : PlainRow). r.w) rows ∙ ap (map (λ (r : PlainRow). r.w)) is)
    ∙ first-pass n (λ i. is_acentric_factor (get_or (four (λ k. (f k).w)) i (pos 0))) few (good 0) (good 1) (good 2) (good 3)
