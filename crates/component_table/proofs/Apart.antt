-- Lists whose items stand apart, with one item more, and places among more components.
use Rattle.std.proofs.Common.{◌≡◌, ℕ, ◌+◌, ◌<◌, ◌≤◌, List, [], ◌∷◌, ◌++◌, length, Bool, true, false, not, ◌&&◌, ◌||◌, refl, arith}
use Rattle.std.specs.Prelude.{Ok, cond, ◌==◌, nat_lt, nat_le}
use Rattle.std.specs.List.{list_all, list_any, position_or_len}
use Rattle.std.proofs.lemmas.Bool.{and_parts, and_from, leb-true, le-leb, ltb-true, ltb-false, le-ltb}
use Rattle.std.proofs.lemmas.List.Folds.{list_any-append}
use Rattle.case_words.proofs.Exports.{when_good}
use Rattle.component_table.specs.declared.faults.TableFault.TheVariants.{UnknownName}
use Rattle.component_table.specs.declared.rows.PairRow.{PairRow}
use Rattle.component_table.specs.declared.rows.CpRow.{CpRow}
use Rattle.component_table.specs.Records.{PlainRow}
use Rattle.component_table.specs.Tables.{index_in, known}
use Rattle.component_table.specs.Apart.{are_apart, is_place, is_between, is_cp_of}

-- ---- tests
pub or_parts : (a b : Bool) → (a || b) ≡ false → (a ≡ false) × (b ≡ false)
or_parts false b e = (refl, e)
or_parts true b e = absurd (cc)

not_so : (b : Bool) → not b ≡ true → b ≡ false
not_so false e = refl
not_so true e = absurd (cc)

-- ---- one item more
pub apart-push : {X : Type 0} (same : X → X → Bool) (xs : List X) (y : X) → are_apart same xs ≡ true → list_any (λ x. same x y) xs ≡ false
    → are_apart same (xs ++ y ∷ []) ≡ true
unfolding are_apart
apart-push same [] y before new = refl
apart-push same (x ∷ xs) y before new =
    let both = and_parts (not (list_any (same x) xs)) (are_apart same xs) before in
    let news = or_parts (same x y) (list_any (λ z. same z y) xs) new in
    rw (list_any-append (same x) xs (y ∷ []), not_so (list_any (same x) xs) both.0, news.0) (apart-push same xs y both.1 news.1)

-- a test that passes wherever another does
pub all-weaker : {X : Type 0} (p q : X → Bool) (xs : List X) → ((x : X) → p x ≡ true → q x ≡ true) → list_all p xs ≡ true → list_all q xs ≡ true
all-weaker p q [] weaker all = refl
all-weaker p q (x ∷ xs) weaker all =
    let both = and_parts (p x) (list_all p xs) all in
    rw (weaker x both.0) (all-weaker p q xs weaker both.1)

-- ---- a name that no component has
pub none-found : {X : Type 0} (p : X → Bool) (xs : List X) → nat_lt (position_or_len p xs) (length xs) ≡ false → list_any p xs ≡ false
none-found p [] e = refl
none-found p (x ∷ xs) e = go (p x) (none-found p xs) e
  where
    go : (b : Bool) → (nat_lt (position_or_len p xs) (length xs) ≡ false → list_any p xs ≡ false)
        → nat_lt (cond (not b) (1 + position_or_len p xs) 0) (length (x ∷ xs)) ≡ false → (b || list_any p xs) ≡ false
    go true rest f = let l : length (x ∷ xs) ≤ 0 = ltb-false 0 (length (x ∷ xs)) f in absurd (omega (arith, l))
    go false rest f =
        let l : length (x ∷ xs) ≤ 1 + position_or_len p xs = ltb-false (1 + position_or_len p xs) (length (x ∷ xs)) f in
        rest (le-ltb (position_or_len p xs) (length xs) (omega (arith, l)))

-- ---- places among one component more
place-more : (n i : ℕ) → is_place n i ≡ true → is_place (n + 1) i ≡ true
place-more n i e =
    let both = and_parts (nat_le 1 i) (nat_le i n) e in
    and_from (nat_le 1 i) (nat_le i (n + 1)) both.0 (le-leb i (n + 1) (omega (arith, leb-true i n both.1)))

pub between-more : (n : ℕ) (p : PairRow) → is_between n p ≡ true → is_between (n + 1) p ≡ true
between-more n p e =
    let first = and_parts (is_place n p.i) (is_place n p.j && not (p.i == p.j)) e in
    let second = and_parts (is_place n p.j) (not (p.i == p.j)) first.1 in
    rw (place-more n p.i first.0, place-more n p.j second.0) second.1

pub cp_of-more : (n : ℕ) (c : CpRow) → is_cp_of n c ≡ true → is_cp_of (n + 1) c ≡ true
cp_of-more n c e = place-more n c.i e

-- the place of a known name
pub known-place : (n : ℕ) (comps : List PlainRow) (name : List ℕ) (i : ℕ) → known n comps name ≡ Ok i → is_place (length comps) i ≡ true
known-place n comps name i e =
    let good = when_good (nat_lt (index_in comps name) (length comps)) (index_in comps name + 1) i (UnknownName n) e in
    let below : index_in comps name < length comps = ltb-true (index_in comps name) (length comps) good.0 in
    let is : index_in comps name + 1 ≡ i = good.1 in
    and_from (nat_le 1 i) (nat_le i (length comps)) (le-leb 1 i (omega (arith, is))) (le-leb i (length comps) (omega (arith, is, below)))
