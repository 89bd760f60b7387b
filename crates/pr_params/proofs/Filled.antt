-- What four places hold is what the definitions say of a case.
use Rattle.std.proofs.Common.{◌≡◌, ℕ, List, ℤ, refl, sym}
use Rattle.log_laws.specs.LogE.{log_e_ends}
use Rattle.log_laws.specs.Roots.{root_ends}
use Rattle.log_laws.specs.declared.iv.Iv.{Iv}
use Rattle.log_laws.specs.Interval.{ends_of}
use Rattle.case_types.specs.declared.cases.Case.{Case}
use Rattle.case_types.specs.Arithmetic.Numbers.{numbers_of, enclosures_of, lift_of}
use Rattle.case_types.specs.Energy.Printed.{enclosures_in}
use Rattle.pr_params.specs.Entries.{temperature_entry, alpha_entry, covolume_entry, bare_entry, attraction_entry, ends_of_all, ends_of_table, filled, filled_table}
use Rattle.pr_params.specs.Held.{numbers_in}
use Rattle.pr_params.proofs.Entries.{greatest_entry, same_numbers}
use Rattle.pr_params.proofs.Slots.{taken, table_taken}

pub record AreFilled (c : Case) (lift : ℕ) (two e : Iv) (ms bs : List Iv) (hs «as» : List (List Iv)) (rho : ℤ) : Type 0 where
  pub lifted : lift ≡ lift_of c
  pub root_two : ends_of two ≡ root_ends 2 1 60
  pub log_e : ends_of e ≡ log_e_ends
  pub alphas : ends_of_all ms ≡ filled c.n (alpha_entry c)
  pub covolumes : ends_of_all bs ≡ filled c.n (covolume_entry c)
  pub bares : ends_of_table hs ≡ filled_table c.n (bare_entry c)
  pub attractions : ends_of_table «as» ≡ filled_table c.n (attraction_entry c)
  pub ratio : rho ≡ greatest_entry c c.n

pub numbers_filled : (c : Case) (lift : ℕ) (two e : Iv) (ms bs : List Iv) (hs «as» : List (List Iv)) (rho : ℤ) →
    AreFilled c lift two e ms bs hs «as» rho → numbers_in c.n lift two e ms bs hs «as» rho ≡ numbers_of c
numbers_filled c lift two e ms bs hs «as» rho f =
    rw (
      f.lifted,
      f.root_two,
      f.log_e,
      taken c.n (alpha_entry c) ms c.few f.alphas,
      taken c.n (covolume_entry c) bs c.few f.covolumes,
      table_taken c.n (bare_entry c) hs c.few f.bares,
      table_taken c.n (attraction_entry c) «as» c.few f.attractions,
      f.ratio,
    ) (sym (same_numbers c))

pub pairs_filled : (c : Case) (two e : Iv) (ts qs : List Iv) → ends_of two ≡ root_ends 2 1 60 → ends_of e ≡ log_e_ends →
    ends_of_all ts ≡ filled c.n (temperature_entry c) → ends_of_all qs ≡ (enclosures_of c).pressure_roots → enclosures_in c.n two e ts qs ≡ enclosures_of c
unfolding enclosures_of temperature_entry
pairs_filled c two e ts qs t l r q = rw (t, l, taken c.n (temperature_entry c) ts c.few r, q) refl
