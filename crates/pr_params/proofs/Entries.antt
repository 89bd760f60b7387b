-- The numbers of a case, entry by entry.
use Rattle.std.proofs.Common.{◌≡◌, ℕ, zero, suc, ◌<◌, refl, sym, ap, ◌∙◌, arith, ℤ, pos, ◌^◌, ◌*ℤ◌}
use Rattle.log_laws.specs.Between.{Ends}
use Rattle.log_laws.specs.LogE.{log_e_ends}
use Rattle.log_laws.specs.Roots.{root_ends}
use Rattle.log_laws.specs.Sums.{list_below, greatest_below}
use Rattle.log_laws.specs.Whole.{ceil_div}
use Rattle.case_types.specs.declared.cases.Case.{Case}
use Rattle.case_types.specs.Arithmetic.Numbers.{Numbers, numbers_of, enclosures_of, lift_of, alpha_root_ends, attraction_ends, table_below}
use Rattle.case_types.specs.Arithmetic.Tables.{ends_at, ends_of_pair}
use Rattle.pr_params.specs.Entries.{temperature_entry, alpha_entry, covolume_entry, pressure_entry, bare_entry, attraction_entry, ratio_entry}
use Rattle.pr_params.proofs.AtComponents.{alpha_root_at, covolume_at, bare_attraction_at, attraction_at}
use Rattle.pr_params.proofs.Right.{temperature_at}

-- ---- an entry of the numbers
pub alpha_is : (c : Case) (i : ℕ) → i < c.n → ends_at (numbers_of c).alpha_roots i ≡ alpha_entry c i
unfolding alpha_entry temperature_entry
alpha_is c i h = alpha_root_at c i h ∙ ap (λ (t : Ends). alpha_root_ends c t i) (temperature_at c i h)

pub covolume_is : (c : Case) (i : ℕ) → i < c.n → ends_at (numbers_of c).covolumes i ≡ covolume_entry c i
unfolding covolume_entry
covolume_is c i h = covolume_at c i h

pub bare_is : (c : Case) (i j : ℕ) → i < c.n → j < c.n → ends_of_pair (numbers_of c).bare_attractions i j ≡ bare_entry c i j
unfolding bare_entry pressure_entry
bare_is c i j h g = bare_attraction_at c i j h g

pub attraction_is : (c : Case) (i j : ℕ) → i < c.n → j < c.n → ends_of_pair (numbers_of c).attractions i j ≡ attraction_entry c i j
unfolding attraction_entry
attraction_is c i j h g = attraction_at c i j h g ∙ (rw (bare_is c i j h g, alpha_is c i h, alpha_is c j g) refl)

-- ---- lists and greatest values of functions that are the same below n
list_same : {X : Type 0} → (n : ℕ) (f g : ℕ → X) → ((i : ℕ) → i < n → f i ≡ g i) → list_below n f ≡ list_below n g
unfolding list_below
list_same zero f g h = refl
list_same (suc n) f g h = rw (list_same n f g (λ i l. h i (omega (arith, l))), h n (omega arith)) refl

table_same : (n : ℕ) (f g : ℕ → ℕ → Ends) → ((i j : ℕ) → i < n → j < n → f i j ≡ g i j) → table_below n f ≡ table_below n g
table_same n f g h = list_same n (λ i. list_below n (f i)) (λ i. list_below n (g i)) (λ i l. list_same n (f i) (g i) (λ j m. h i j l m))

greatest_same : (n : ℕ) (f g : ℕ → ℤ) (first : ℤ) → ((i : ℕ) → i < n → f i ≡ g i) → greatest_below n f first ≡ greatest_below n g first
unfolding greatest_below
greatest_same zero f g first h = refl
greatest_same (suc n) f g first h = rw (greatest_same n f g first (λ i l. h i (omega (arith, l))), h n (omega arith)) refl

-- ---- all numbers
abbrev pub greatest_entry : Case → ℕ → ℤ
greatest_entry c n = greatest_below n (λ i. greatest_below n (ratio_entry c i) (pos 0)) (pos 0)

-- those of the first n components
abbrev pub numbers_below : Case → ℕ → Numbers
numbers_below c n = record {
  count = n;
  lift = lift_of c;
  root_two = root_ends 2 1 60;
  log_e = log_e_ends;
  alpha_roots = list_below n (alpha_entry c);
  covolumes = list_below n (covolume_entry c);
  bare_attractions = table_below n (bare_entry c);
  attractions = table_below n (attraction_entry c);
  rho = greatest_entry c n;
}

alphas_are : (c : Case) → (numbers_of c).alpha_roots ≡ list_below c.n (alpha_entry c)
unfolding numbers_of alpha_entry temperature_entry
alphas_are c =
    list_same c.n (λ i. alpha_root_ends c (ends_at (enclosures_of c).temperature_roots i) i) (alpha_entry c)
    (λ i h. ap (λ (t : Ends). alpha_root_ends c t i) (temperature_at c i h))

covolumes_are : (c : Case) → (numbers_of c).covolumes ≡ list_below c.n (covolume_entry c)
unfolding numbers_of covolume_entry
covolumes_are c = refl

bares_are : (c : Case) → (numbers_of c).bare_attractions ≡ table_below c.n (bare_entry c)
unfolding numbers_of bare_entry pressure_entry
bares_are c = refl

attractions_are : (c : Case) → (numbers_of c).attractions ≡ table_below c.n (attraction_entry c)
unfolding numbers_of
attractions_are c =
    table_same c.n
    (λ i j. attraction_ends (ends_of_pair (numbers_of c).bare_attractions i j) (ends_at (numbers_of c).alpha_roots i) (ends_at (numbers_of c).alpha_roots j))
    (attraction_entry c) (λ i j h g. sym (attraction_at c i j h g) ∙ attraction_is c i j h g)

ratio_is : (c : Case) (i j : ℕ) → i < c.n → j < c.n →
    ceil_div ((ends_of_pair (numbers_of c).attractions i j).hi *ℤ pos (2 ^ 47)) (ends_at (numbers_of c).covolumes i).lo ≡ ratio_entry c i j
unfolding ratio_entry
ratio_is c i j h g = rw (attraction_is c i j h g, covolume_is c i h) refl

rho_is : (c : Case) → (numbers_of c).rho ≡ greatest_entry c c.n
unfolding numbers_of
rho_is c =
    greatest_same c.n
    (λ i. greatest_below c.n (λ j. ceil_div ((ends_of_pair (numbers_of c).attractions i j).hi *ℤ pos (2 ^ 47)) (ends_at (numbers_of c).covolumes i).lo) (pos 0))
    (λ i. greatest_below c.n (ratio_entry c i) (pos 0)) (pos 0)
    (λ i h. greatest_same c.n
    (λ j. ceil_div ((ends_of_pair (numbers_of c).attractions i j).hi *ℤ pos (2 ^ 47)) (ends_at (numbers_of c).covolumes i).lo)
    (ratio_entry c i) (pos 0) (λ j g. ratio_is c i j h g))

others_are : (c : Case) → ((numbers_of c).count ≡ c.n) × ((numbers_of c).lift ≡ lift_of c) × ((numbers_of c).root_two ≡ root_ends 2 1 60) × ((numbers_of c).log_e ≡ log_e_ends)
unfolding numbers_of enclosures_of
others_are c = (refl, refl, refl, refl)

pub same_numbers : (c : Case) → numbers_of c ≡ numbers_below c c.n
same_numbers c =
    let o = others_are c in
    rebuilt (numbers_of c) ∙ (rw (o.0, o.1, o.2, o.3, alphas_are c, covolumes_are c, bares_are c, attractions_are c, rho_is c) refl)
  where
    rebuilt : (p : Numbers) → p ≡ record {
      count = p.count;
      lift = p.lift;
      root_two = p.root_two;
      log_e = p.log_e;
      alpha_roots = p.alpha_roots;
      covolumes = p.covolumes;
      bare_attractions = p.bare_attractions;
      attractions = p.attractions;
      rho = p.rho;
    }
    rebuilt p = refl
