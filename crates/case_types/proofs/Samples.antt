-- Cases that the facts by numbers speak of.
use Rattle.std.specs.Prelude.{ℕ, List, [], ◌∷◌, ℤ, pos, neg_ℤ, refl}
use Rattle.std.proofs.Common.{lit≤}
use Rattle.case_types.specs.declared.cases.Case.{Case}
use Rattle.case_types.specs.declared.cases.Edition.TheVariants.{Y1976}
use Rattle.case_types.specs.declared.cases.Row.{Row}
use Rattle.case_types.specs.declared.cases.Name.{Name}

abbrev pub a_name : Name
a_name = record { len = 1; bytes = 97 ∷ 0 ∷ 0 ∷ 0 ∷ 0 ∷ 0 ∷ 0 ∷ 0 ∷ 0 ∷ 0 ∷ 0 ∷ 0 ∷ 0 ∷ 0 ∷ 0 ∷ 0 ∷ []; short = lit≤ tt; spelled = refl }

abbrev pub a_row : ℕ → ℕ → ℤ → Row
a_row tc pc w = record { name = a_name; tc = tc; pc = pc; w = w }

abbrev pub no_row : Row
no_row = a_row 0 0 (pos 0)

abbrev pub zeros : List ℤ
zeros = pos 0 ∷ pos 0 ∷ pos 0 ∷ pos 0 ∷ []

abbrev pub no_interactions : List (List ℤ)
no_interactions = zeros ∷ zeros ∷ zeros ∷ zeros ∷ []

-- one component at its critical temperature and pressure
abbrev pub critical_case : Case
critical_case = record {
  n = 1;
  rows = a_row 300000 1000000 (pos 0) ∷ no_row ∷ no_row ∷ no_row ∷ [];
  k = no_interactions;
  z = 1 ∷ 0 ∷ 0 ∷ 0 ∷ [];
  total = 1;
  t = 300000;
  p = 1000000;
  edition = Y1976;
  some = lit≤ tt;
  few = lit≤ tt;
  tc_range = refl;
  pc_range = refl;
  w_range = refl;
  interactions = refl;
  live = refl;
  added = refl;
  total_high = lit≤ tt;
  t_low = lit≤ tt;
  t_high = lit≤ tt;
  p_low = lit≤ tt;
  p_high = lit≤ tt;
}

abbrev pub methane : Row
methane = a_row 190564 4599200 (pos 114)

abbrev pub propane : Row
propane = a_row 369830 4248000 (pos 1523)

abbrev pub decane : Row
decane = a_row 617700 2110000 (pos 4923)

-- methane and decane, one part each, at 300 K and 5 MPa
abbrev pub binary_case : Case
binary_case = record {
  n = 2;
  rows = methane ∷ decane ∷ no_row ∷ no_row ∷ [];
  k = no_interactions;
  z = 1 ∷ 1 ∷ 0 ∷ 0 ∷ [];
  total = 2;
  t = 300000;
  p = 5000000;
  edition = Y1976;
  some = lit≤ tt;
  few = lit≤ tt;
  tc_range = refl;
  pc_range = refl;
  w_range = refl;
  interactions = refl;
  live = refl;
  added = refl;
  total_high = lit≤ tt;
  t_low = lit≤ tt;
  t_high = lit≤ tt;
  p_low = lit≤ tt;
  p_high = lit≤ tt;
}

-- five parts methane, three propane, two decane, at 300 K and 5 MPa
abbrev pub ternary_case : Case
ternary_case = record {
  n = 3;
  rows = methane ∷ propane ∷ decane ∷ no_row ∷ [];
  k = no_interactions;
  z = 5 ∷ 3 ∷ 2 ∷ 0 ∷ [];
  total = 10;
  t = 300000;
  p = 5000000;
  edition = Y1976;
  some = lit≤ tt;
  few = lit≤ tt;
  tc_range = refl;
  pc_range = refl;
  w_range = refl;
  interactions = refl;
  live = refl;
  added = refl;
  total_high = lit≤ tt;
  t_low = lit≤ tt;
  t_high = lit≤ tt;
  p_low = lit≤ tt;
  p_high = lit≤ tt;
}

-- an acentric factor of 1.5 far above the critical temperature
abbrev pub negative_alpha_case : Case
negative_alpha_case = record {
  n = 1;
  rows = a_row 300000 1000000 (pos 15000) ∷ no_row ∷ no_row ∷ no_row ∷ [];
  k = no_interactions;
  z = 1 ∷ 0 ∷ 0 ∷ 0 ∷ [];
  total = 1;
  t = 1200000;
  p = 1000000;
  edition = Y1976;
  some = lit≤ tt;
  few = lit≤ tt;
  tc_range = refl;
  pc_range = refl;
  w_range = refl;
  interactions = refl;
  live = refl;
  added = refl;
  total_high = lit≤ tt;
  t_low = lit≤ tt;
  t_high = lit≤ tt;
  p_low = lit≤ tt;
  p_high = lit≤ tt;
}

-- a covolume above 32
abbrev pub large_covolume_case : Case
large_covolume_case = record {
  n = 1;
  rows = a_row 300000 100000 (pos 0) ∷ no_row ∷ no_row ∷ no_row ∷ [];
  k = no_interactions;
  z = 1 ∷ 0 ∷ 0 ∷ 0 ∷ [];
  total = 1;
  t = 300000;
  p = 100000000;
  edition = Y1976;
  some = lit≤ tt;
  few = lit≤ tt;
  tc_range = refl;
  pc_range = refl;
  w_range = refl;
  interactions = refl;
  live = refl;
  added = refl;
  total_high = lit≤ tt;
  t_low = lit≤ tt;
  t_high = lit≤ tt;
  p_low = lit≤ tt;
  p_high = lit≤ tt;
}

-- an attraction above 128 times the covolume
abbrev pub large_attraction_case : Case
large_attraction_case = record {
  n = 1;
  rows = a_row 1500000 1000000 (pos 0) ∷ no_row ∷ no_row ∷ no_row ∷ [];
  k = no_interactions;
  z = 1 ∷ 0 ∷ 0 ∷ 0 ∷ [];
  total = 1;
  t = 50000;
  p = 100000;
  edition = Y1976;
  some = lit≤ tt;
  few = lit≤ tt;
  tc_range = refl;
  pc_range = refl;
  w_range = refl;
  interactions = refl;
  live = refl;
  added = refl;
  total_high = lit≤ tt;
  t_low = lit≤ tt;
  t_high = lit≤ tt;
  p_low = lit≤ tt;
  p_high = lit≤ tt;
}

-- covolumes more than 1024 times apart
abbrev pub far_covolumes_case : Case
far_covolumes_case = record {
  n = 2;
  rows = a_row 300000 100000 (pos 0) ∷ a_row 5000 50000000 (pos 0) ∷ no_row ∷ no_row ∷ [];
  k = no_interactions;
  z = 1 ∷ 1 ∷ 0 ∷ 0 ∷ [];
  total = 2;
  t = 300000;
  p = 100000;
  edition = Y1976;
  some = lit≤ tt;
  few = lit≤ tt;
  tc_range = refl;
  pc_range = refl;
  w_range = refl;
  interactions = refl;
  live = refl;
  added = refl;
  total_high = lit≤ tt;
  t_low = lit≤ tt;
  t_high = lit≤ tt;
  p_low = lit≤ tt;
  p_high = lit≤ tt;
}

-- the critical component under two names
abbrev pub twin_case : Case
twin_case = record {
  n = 2;
  rows = a_row 300000 1000000 (pos 0) ∷ a_row 300000 1000000 (pos 0) ∷ no_row ∷ no_row ∷ [];
  k = no_interactions;
  z = 1 ∷ 1 ∷ 0 ∷ 0 ∷ [];
  total = 2;
  t = 300000;
  p = 1000000;
  edition = Y1976;
  some = lit≤ tt;
  few = lit≤ tt;
  tc_range = refl;
  pc_range = refl;
  w_range = refl;
  interactions = refl;
  live = refl;
  added = refl;
  total_high = lit≤ tt;
  t_low = lit≤ tt;
  t_high = lit≤ tt;
  p_low = lit≤ tt;
  p_high = lit≤ tt;
}

-- each pair with an interaction of its own
abbrev pub interactions : List (List ℤ)
interactions =
    (pos 0 ∷ pos 100 ∷ pos 500 ∷ pos 1000 ∷ [])
    ∷ (pos 100 ∷ pos 0 ∷ neg_ℤ (pos 200) ∷ pos 1200 ∷ [])
    ∷ (pos 500 ∷ neg_ℤ (pos 200) ∷ pos 0 ∷ pos 1100 ∷ [])
    ∷ (pos 1000 ∷ pos 1200 ∷ pos 1100 ∷ pos 0 ∷ [])
    ∷ []

abbrev pub carbon_dioxide : Row
carbon_dioxide = a_row 304130 7377300 (pos 2239)

-- four components at 250 K and 3 MPa
abbrev pub quaternary_case : Case
quaternary_case = record {
  n = 4;
  rows = methane ∷ propane ∷ decane ∷ carbon_dioxide ∷ [];
  k = interactions;
  z = 4 ∷ 3 ∷ 2 ∷ 1 ∷ [];
  total = 10;
  t = 250000;
  p = 3000000;
  edition = Y1976;
  some = lit≤ tt;
  few = lit≤ tt;
  tc_range = refl;
  pc_range = refl;
  w_range = refl;
  interactions = refl;
  live = refl;
  added = refl;
  total_high = lit≤ tt;
  t_low = lit≤ tt;
  t_high = lit≤ tt;
  p_low = lit≤ tt;
  p_high = lit≤ tt;
}
