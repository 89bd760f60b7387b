-- Heat capacities one after the other.
use Rattle.std.proofs.Common.{◌≡◌, ℕ, zero, suc, ◌+◌, ◌<◌, ◌≤◌, List, [], ◌∷◌, length, get_or, drop, Bool, true, false, ℤ, Option, Some, None, refl, arith}
use Rattle.std.specs.Prelude.{Ok, Err, cond, nat_lt}
use Rattle.std.specs.List.{list_all}
use Rattle.std.specs.Option.{is_some}
use Rattle.std.proofs.lemmas.Bool.{and_parts, ltb-true}
use Rattle.std.proofs.lemmas.List.{drop_more, drop_all}
use Rattle.component_table.specs.declared.cases.CaseFault.TheVariants.{NoCp}
use Rattle.component_table.specs.declared.rows.CpRow.{CpRow}
use Rattle.component_table.specs.Tables.{is_of}
use Rattle.component_table.specs.Apart.{is_cp_row}
use Rattle.component_table.specs.Capacities.{capacity_in, is_capacity, all_there}

-- ---- the heat capacity of a place
pub capacity-here : (rows : List CpRow) (i place : ℕ) (d : CpRow) → i < length rows → is_of place (get_or rows i d) ≡ true → capacity_in (drop i rows) place ≡ Some (get_or rows i d).cp
unfolding capacity_in
capacity-here rows i place d inside same = rw (drop_more rows i d inside, same) refl

pub capacity-more : (rows : List CpRow) (i place : ℕ) (d : CpRow) → i < length rows → is_of place (get_or rows i d) ≡ false → capacity_in (drop i rows) place ≡ capacity_in (drop (i + 1) rows) place
unfolding capacity_in
capacity-more rows i place d inside other = rw (drop_more rows i d inside, other) refl

pub capacity-end : (rows : List CpRow) (i place : ℕ) → length rows ≤ i → capacity_in (drop i rows) place ≡ None
unfolding capacity_in
capacity-end rows i place end = rw (drop_all i rows end) refl

either : (b : Bool) (x y : Option (List ℤ)) → is_capacity x ≡ true → is_capacity y ≡ true → is_capacity (cond b x y) ≡ true
either true x y h g = h
either false x y h g = g

pub capacity-in_range : (rows : List CpRow) (place : ℕ) → list_all is_cp_row rows ≡ true → is_capacity (capacity_in rows place) ≡ true
unfolding capacity_in
capacity-in_range [] place all = refl
capacity-in_range (row ∷ rows) place all =
    let parts = and_parts (is_cp_row row) (list_all is_cp_row rows) all in
    either (is_of place row) (Some row.cp) (capacity_in rows place) parts.0 (capacity-in_range rows place parts.1)

-- ---- the first live name without one
pub there-here : (names : List ℕ) (cps : List (Option (List ℤ))) (i d : ℕ) (e : Option (List ℤ)) → i < length names → i < length cps → get_or cps i e ≡ None →
    all_there (drop i names) (drop i cps) ≡ Err (NoCp (get_or names i d + 1))
unfolding all_there
there-here names cps i d e inside here none = rw (drop_more names i d inside, drop_more cps i e here, none) refl

pub there-more : (names : List ℕ) (cps : List (Option (List ℤ))) (i d : ℕ) (e : Option (List ℤ)) (cp : List ℤ) → i < length names → i < length cps → get_or cps i e ≡ Some cp →
    all_there (drop i names) (drop i cps) ≡ all_there (drop (i + 1) names) (drop (i + 1) cps)
unfolding all_there
there-more names cps i d e cp inside here some = rw (drop_more names i d inside, drop_more cps i e here, some) refl

pub there-end : (names : List ℕ) (cps : List (Option (List ℤ))) (i : ℕ) → length names ≤ i → all_there (drop i names) (drop i cps) ≡ Ok tt
unfolding all_there
there-end names cps i end = rw (drop_all i names end) refl

-- ---- numbers below another
pub below-at : (n : ℕ) (ks : List ℕ) (i d : ℕ) → list_all (λ k. nat_lt k n) ks ≡ true → i < length ks → get_or ks i d < n
below-at n [] i d all inside = absurd (omega (arith, inside))
below-at n (k ∷ ks) zero d all inside = ltb-true k n (and_parts (nat_lt k n) (list_all (λ k. nat_lt k n) ks) all).0
below-at n (k ∷ ks) (suc i) d all inside = below-at n ks i d (and_parts (nat_lt k n) (list_all (λ k. nat_lt k n) ks) all).1 (omega (arith, inside))

pub none_of : {X : Type 0} (o : Option X) → is_some o ≡ false → o ≡ None
none_of None e = refl
none_of (Some x) e = absurd (cc)

pub some_of : {X : Type 0} (o : Option X) → is_some o ≡ true → (x : X) × (o ≡ Some x)
some_of None e = absurd (cc)
some_of (Some x) e = (x, refl)
