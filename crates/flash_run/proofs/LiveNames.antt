-- The components of a case that is picked have names, which differ.
use Rattle.std.proofs.Common.{◌≡◌, ℕ, zero, suc, ◌+◌, ◌-◌, ◌<◌, ◌≤◌, List, [], ◌∷◌, ◌++◌, length, map, get_or, refl, sym, ap, subst, ◌∙◌, arith, Bool, true, false, not, Ok, Err, append_assoc, IsTrue}
use Rattle.std.specs.Prelude.{◌==◌, ◌&&◌, ◌||◌, nat_lt, nat_le, if◌then◌else◌, slice_index, slice_index_or}
use Rattle.std.specs.List.{list_all, list_any}
use Rattle.std.specs.Str.{bytes_eq}
use Rattle.std.specs.declared.result.Result.{Result}
use Rattle.std.proofs.lemmas.Bool.{ltb-true, leb-false, and_parts}
use Rattle.std.proofs.lemmas.List.{append-nil, length-append, map-append}
use Rattle.std.proofs.lemmas.List.Sums.{passes_at_first}
use Rattle.std.proofs.lemmas.Slice.Eq.{bytes_eq-Decides}
use Rattle.log_laws.specs.Sums.{list_below}
use Rattle.case_words.specs.Names.{text_of, is_name_length, are_different}
use Rattle.component_table.specs.Choosing.{PlainChosen, with_part, place_for, with_names, row_in, no_row, none_chosen}
use Rattle.case_types.specs.declared.cases.Row.{Row}
use Rattle.cert_check.specs.Converse.{AreNamed}
use Rattle.cert_format.specs.Heads.{name_of_component}
use Rattle.case_words.specs.Jobs.{Asked}
use Rattle.component_table.specs.Picking.{Picks}
use Rattle.component_table.specs.Tables.{Held}
use Rattle.component_table.specs.declared.cases.Picked.{Picked}
use Rattle.component_table.specs.Records.{PlainRow}
use Rattle.component_table.specs.Rows.{plain_row}
use Rattle.component_table.specs.Tables.{index_in, has_name}
use Rattle.component_table.specs.declared.cases.CaseFault.{CaseFault}
use Rattle.component_table.specs.declared.cases.CaseFault.TheVariants.{NoName}
use Rattle.case_words.specs.Answers.{when, ◌>>=◌}

-- the name of the component at a place from 1
abbrev name_at : List PlainRow → ℕ → List ℕ
name_at comps place = (row_in comps place).name

-- the names that have a part of the feed
kept : ℕ → List (List ℕ) → List ℕ → List (List ℕ)
kept i [] parts = []
kept i (name ∷ names) parts = if slice_index parts i == 0 then kept (i + 1) names parts else name ∷ kept (i + 1) names parts

-- ---- the component that is found has the name
found : (comps : List PlainRow) (name : List ℕ) → index_in comps name < length comps → name_at comps (index_in comps name + 1) ≡ name
found comps name inside = by_test (nat_le 1 (index_in comps name + 1)) refl
  where
    by_test : (b : Bool) → nat_le 1 (index_in comps name + 1) ≡ b
        → (if b then slice_index_or comps (index_in comps name + 1 - 1) no_row else no_row).name ≡ name
    by_test true e =
        let at : has_name name (get_or comps (index_in comps name) no_row) ≡ true = passes_at_first (has_name name) comps no_row inside in
        let back : index_in comps name + 1 - 1 ≡ index_in comps name = omega arith in
        rw back ((bytes_eq-Decides (get_or comps (index_in comps name) no_row).name name).0 at)
    by_test false e = absurd (omega (arith, leb-false 1 (index_in comps name + 1) e))

placed : (i : ℕ) (comps : List PlainRow) (name : List ℕ) (place : ℕ) → place_for i comps name ≡ Ok place → name_at comps place ≡ name
placed i comps name place e = by_test (nat_lt (index_in comps name) (length comps)) refl e
  where
    by_test : (b : Bool) → nat_lt (index_in comps name) (length comps) ≡ b → when b (index_in comps name + 1) (NoName (i + 1)) ≡ Ok place → name_at comps place ≡ name
    by_test true t e = let is : index_in comps name + 1 ≡ place = cc in subst (λ (k : ℕ). name_at comps k ≡ name) is (found comps name (ltb-true (index_in comps name) (length comps) t))
    by_test false t e = absurd cc

-- ---- the names of what is chosen
abbrev chosen_names : List PlainRow → PlainChosen → List (List ℕ)
chosen_names comps c = map (name_at comps) c.places

with_part_names : (i : ℕ) (comps : List PlainRow) (c : PlainChosen) (place part : ℕ) (name : List ℕ) (names : List (List ℕ)) → name_at comps place ≡ name →
    chosen_names comps (with_part i c place part) ++ names ≡ chosen_names comps c ++ (if part == 0 then names else name ∷ names)
with_part_names i comps c place part name names e = by_test (part == 0)
  where
    by_test : (b : Bool) → chosen_names comps (if b then c else record { live = c.live ++ i ∷ []; places = c.places ++ place ∷ []; parts = c.parts ++ part ∷ [] }) ++ names
        ≡ chosen_names comps c ++ (if b then names else name ∷ names)
    by_test true = refl
    by_test false =
        ap (λ (xs : List (List ℕ)). xs ++ names) (map-append (name_at comps) c.places (place ∷ []))
        ∙ append_assoc (map (name_at comps) c.places) (name_at comps place ∷ []) names
        ∙ ap (λ (x : List ℕ). map (name_at comps) c.places ++ x ∷ names) e

names_kept : (i : ℕ) (comps : List PlainRow) (c chosen : PlainChosen) (names : List (List ℕ)) (parts : List ℕ) → with_names i comps c names parts ≡ Ok chosen →
    chosen_names comps chosen ≡ chosen_names comps c ++ kept i names parts
unfolding with_names kept
names_kept i comps c chosen [] parts e = let same : c ≡ chosen = cc in rw same (sym (append-nil (chosen_names comps chosen)))
names_kept i comps c chosen (name ∷ names) parts e =
    by_place (λ place h. names_kept (i + 1) comps (with_part i c place (slice_index parts i)) chosen names parts h) (place_for i comps name) refl e
  where
    by_place : ((place : ℕ) → with_names (i + 1) comps (with_part i c place (slice_index parts i)) names parts ≡ Ok chosen
        → chosen_names comps chosen ≡ chosen_names comps (with_part i c place (slice_index parts i)) ++ kept (i + 1) names parts)
        → (r : Result ℕ CaseFault) → place_for i comps name ≡ r
        → (r >>= λ place. with_names (i + 1) comps (with_part i c place (slice_index parts i)) names parts) ≡ Ok chosen
        → chosen_names comps chosen ≡ chosen_names comps c ++ (if slice_index parts i == 0 then kept (i + 1) names parts else name ∷ kept (i + 1) names parts)
    by_place again (Err f) p e = absurd cc
    by_place again (Ok place) p e =
        again place e ∙ with_part_names i comps c place (slice_index parts i) name (kept (i + 1) names parts) (placed i comps name place p)

-- ---- what holds of names holds of those that are kept
any_cons : (p : List ℕ → Bool) (x : List ℕ) (xs : List (List ℕ)) → list_any p (x ∷ xs) ≡ (p x || list_any p xs)
any_cons p x xs = refl

all_cons : (p : List ℕ → Bool) (x : List ℕ) (xs : List (List ℕ)) → list_all p (x ∷ xs) ≡ (p x && list_all p xs)
all_cons p x xs = refl

neither : (a b : Bool) → (a || b) ≡ false → (a ≡ false) × (b ≡ false)
neither false false e = (refl, refl)
neither false true e = absurd cc
neither true b e = absurd cc

any_kept : (p : List ℕ → Bool) (i : ℕ) (names : List (List ℕ)) (parts : List ℕ) → list_any p names ≡ false → list_any p (kept i names parts) ≡ false
unfolding kept
any_kept p i [] parts e = refl
any_kept p i (name ∷ names) parts e =
    let both = neither (p name) (list_any p names) (sym (any_cons p name names) ∙ e) in
    by_test (slice_index parts i == 0) both.0 (any_kept p (i + 1) names parts both.1)
  where
    by_test : (b : Bool) → p name ≡ false → list_any p (kept (i + 1) names parts) ≡ false → list_any p (if b then kept (i + 1) names parts else name ∷ kept (i + 1) names parts) ≡ false
    by_test true here there = there
    by_test false here there = any_cons p name (kept (i + 1) names parts) ∙ rw (here, there) refl

different_kept : (i : ℕ) (names : List (List ℕ)) (parts : List ℕ) → are_different names ≡ true → are_different (kept i names parts) ≡ true
unfolding kept are_different
different_kept i [] parts e = refl
different_kept i (name ∷ names) parts e =
    let both = and_parts (not (list_any (bytes_eq name) names)) (are_different names) e in
    by_test (slice_index parts i == 0) (any_kept (bytes_eq name) (i + 1) names parts (none both.0)) (different_kept (i + 1) names parts both.1)
  where
    none : {b : Bool} → not b ≡ true → b ≡ false
    none {b = true} e = absurd cc
    none {b = false} e = refl

    by_test : (b : Bool) → list_any (bytes_eq name) (kept (i + 1) names parts) ≡ false → are_different (kept (i + 1) names parts) ≡ true
        → are_different (if b then kept (i + 1) names parts else name ∷ kept (i + 1) names parts) ≡ true
    by_test true here there = there
    by_test false here there = rw (here, there) refl

all_kept : (p : List ℕ → Bool) (i : ℕ) (names : List (List ℕ)) (parts : List ℕ) → list_all p names ≡ true → list_all p (kept i names parts) ≡ true
unfolding kept
all_kept p i [] parts e = refl
all_kept p i (name ∷ names) parts e =
    let both = and_parts (p name) (list_all p names) (sym (all_cons p name names) ∙ e) in
    by_test (slice_index parts i == 0) both.0 (all_kept p (i + 1) names parts both.1)
  where
    by_test : (b : Bool) → p name ≡ true → list_all p (kept (i + 1) names parts) ≡ true → list_all p (if b then kept (i + 1) names parts else name ∷ kept (i + 1) names parts) ≡ true
    by_test true here there = there
    by_test false here there = all_cons p name (kept (i + 1) names parts) ∙ rw (here, there) refl

-- ---- the names of a case
-- the first of a list by their indices are the list
by_index : (n : ℕ) (f : ℕ → List ℕ) (g : ℕ → List ℕ) (places : List ℕ) → n ≤ 4 → length places ≡ n → ((i : ℕ) → i < n → g i ≡ f (slice_index places i)) →
    list_below n g ≡ map f places
unfolding list_below
by_index zero f g [] few e h = refl
by_index (suc zero) f g (a ∷ []) few e h = rw (h 0 (omega arith)) refl
by_index (suc (suc zero)) f g (a ∷ b ∷ []) few e h = rw (h 0 (omega arith), h 1 (omega arith)) refl
by_index (suc (suc (suc zero))) f g (a ∷ b ∷ c ∷ []) few e h = rw (h 0 (omega arith), h 1 (omega arith), h 2 (omega arith)) refl
by_index (suc (suc (suc (suc zero)))) f g (a ∷ b ∷ c ∷ d ∷ []) few e h = rw (h 0 (omega arith), h 1 (omega arith), h 2 (omega arith), h 3 (omega arith)) refl
by_index n f g places few e h = absurd (omega (arith, few, e))

-- as many live names as places
IsEven : PlainChosen → Type 0
IsEven c = length c.live ≡ length c.places

even_part : (i place part : ℕ) (c : PlainChosen) → IsEven c → IsEven (with_part i c place part)
unfolding IsEven
even_part i place part c e = by_test (part == 0)
  where
    by_test : (b : Bool) → IsEven (if b then c else record { live = c.live ++ i ∷ []; places = c.places ++ place ∷ []; parts = c.parts ++ part ∷ [] })
    by_test true = e
    by_test false = length-append c.live (i ∷ []) ∙ (rw e refl) ∙ sym (length-append c.places (place ∷ []))

even : (i : ℕ) (comps : List PlainRow) (c chosen : PlainChosen) (names : List (List ℕ)) (parts : List ℕ) → with_names i comps c names parts ≡ Ok chosen → IsEven c → IsEven chosen
unfolding with_names
even i comps c chosen [] parts e h = let same : c ≡ chosen = cc in subst IsEven same h
even i comps c chosen (name ∷ names) parts e h =
    by_place (λ place k. even (i + 1) comps (with_part i c place (slice_index parts i)) chosen names parts k (even_part i place (slice_index parts i) c h)) (place_for i comps name) e
  where
    by_place : ((place : ℕ) → with_names (i + 1) comps (with_part i c place (slice_index parts i)) names parts ≡ Ok chosen → IsEven chosen)
        → (r : Result ℕ CaseFault) → (r >>= λ place. with_names (i + 1) comps (with_part i c place (slice_index parts i)) names parts) ≡ Ok chosen → IsEven chosen
    by_place again (Err f) e = absurd cc
    by_place again (Ok place) e = again place e

row_names : (rows : List Row) → map (λ (r : Row). text_of r.name) rows ≡ map (λ (r : PlainRow). r.name) (map plain_row rows)
row_names [] = refl
row_names (r ∷ rows) = ap (λ (xs : List (List ℕ)). text_of r.name ∷ xs) (row_names rows)

four_at : (f : ℕ → List ℕ) (i : ℕ) → i < 4 → slice_index_or (f 0 ∷ f 1 ∷ f 2 ∷ f 3 ∷ []) i [] ≡ f i
four_at f zero l = refl
four_at f (suc zero) l = refl
four_at f (suc (suc zero)) l = refl
four_at f (suc (suc (suc zero))) l = refl
four_at f (suc (suc (suc (suc i)))) l = absurd (omega (arith, l))

case_names : (t : Held) (asked : Asked) (picked : Picked) → Picks t asked picked → list_below picked.case.n (name_of_component picked.case) ≡ kept 0 asked.names asked.z
unfolding IsEven
case_names t asked picked p =
    let c = picked.case in
    let few = c.few in
    let chosen = p.chosen in
    let names : (i : ℕ) → i < c.n → name_of_component c i ≡ name_at t.comps (slice_index chosen.places i) = λ i l.
    ap (λ (xs : List (List ℕ)). slice_index_or xs i []) (row_names c.rows ∙ ap (map (λ (r : PlainRow). r.name)) p.case_is.rows)
    ∙ four_at (λ i. name_at t.comps (slice_index chosen.places i)) i (omega (arith, l, few)) in
    let long : length chosen.places ≡ c.n = sym (p.case_is.count ∙ even 0 t.comps none_chosen chosen asked.names asked.z p.chosen_is refl) in
    by_index c.n (name_at t.comps) (name_of_component c) chosen.places few long names
    ∙ names_kept 0 t.comps none_chosen chosen asked.names asked.z p.chosen_is

-- the components of a case that is picked for different names have names, which differ
pub are_named : (t : Held) (asked : Asked) (picked : Picked) → Picks t asked picked → IsTrue (list_all is_name_length asked.names) → IsTrue (are_different asked.names) →
    AreNamed picked.case
are_named t asked picked p named differ =
    let e = case_names t asked picked p in
    record { named = rw e (all_kept is_name_length 0 asked.names asked.z named); differ = rw e (different_kept 0 asked.names asked.z differ) }
