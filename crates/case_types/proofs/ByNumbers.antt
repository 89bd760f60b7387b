-- The numbers of sample cases.
use Rattle.std.specs.Prelude.{ℕ, ◌≡◌, [], ◌∷◌, pos, refl}
use Rattle.case_types.proofs.Samples.{critical_case, ternary_case}
use Rattle.case_types.specs.Arithmetic.Numbers.{numbers_of, enclosures_of, lift_of, lift_up_to}
use Rattle.log_laws.specs.Between.{Ends}
use Rattle.log_laws.specs.Roots.{root_digits, with_digit}
use Rattle.log_laws.specs.Sums.{list_below, greatest_below}
use Rattle.log_laws.specs.Squaring.{down, up}

abbrev ends : ℕ → ℕ → Ends
ends lo hi = record { lo = pos lo; hi = pos hi }

pub critical_lift : lift_of critical_case ≡ 8
unfolding lift_up_to
critical_lift = refl

-- each end of a root is exact at the critical point
pub critical_numbers : numbers_of critical_case ≡ record {
  count = 1;
  lift = 8;
  root_two = ends 1630477228166597776 1630477228166597777;
  log_e = ends 1586259924992 1586260020565;
  alpha_roots = ends 281474976710656 281474976710656 ∷ [];
  covolumes = ends 1435156688934603115 1435156688934603116 ∷ [];
  bare_attractions = (ends 16473807148951084 16473807148951085 ∷ []) ∷ [];
  attractions = (ends 65895228595804336 65895228595804340 ∷ []) ∷ [];
  rho = pos 6461962682318;
}
unfolding numbers_of enclosures_of lift_up_to list_below greatest_below root_digits with_digit down up
critical_numbers = refl

pub ternary_numbers : numbers_of ternary_case ≡ record {
  count = 3;
  lift = 6;
  root_two = ends 1630477228166597776 1630477228166597777;
  log_e = ends 1586259924992 1586260020565;
  alpha_roots = ends 253358360280050 253358360280051 ∷ ends 298343779031867 298343779031868 ∷ ends 372631502658194 372631502658196 ∷ [];
  covolumes = ends 247768814205127801 247768814205127802 ∷ ends 520601850153684351 520601850153684352 ∷ ends 1750585084429116004 1750585084429116005 ∷ [];
  bare_attractions =
      (ends 1806595424438115 1806595424438116 ∷ ends 3648136477749176 3648136477749177 ∷ ends 8645648350669461 8645648350669462 ∷ [])
      ∷ (ends 3648136477749176 3648136477749177 ∷ ends 7366840179185930 7366840179185931 ∷ ends 17458532605150899 17458532605150901 ∷ [])
      ∷ (ends 8645648350669461 8645648350669462 ∷ ends 17458532605150899 17458532605150901 ∷ ends 41374640050735955 41374640050735956 ∷ [])
      ∷ [];
  attractions =
      (ends 5854796342253365 5854796342253447 ∷ ends 13922066720956692 13922066720956801 ∷ ends 41209067036049831 41209067036050328 ∷ [])
      ∷ (ends 13922066720956692 13922066720956801 ∷ ends 33105155235539957 33105155235540277 ∷ ends 97990663935451760 97990663935452765 ∷ [])
      ∷ (ends 41209067036049831 41209067036050328 ∷ ends 97990663935451760 97990663935452765 ∷ ends 290050602396881424 290050602396884960 ∷ [])
      ∷ [];
  rho = pos 26490416660017;
}
unfolding numbers_of enclosures_of lift_up_to list_below greatest_below root_digits with_digit down up
ternary_numbers = refl
