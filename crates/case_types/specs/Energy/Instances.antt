-- What stands for the roots and for log2 e: printed pairs, and a choice of one fraction inside each.
use Rattle.std.specs.Prelude.{ℕ, ◌+◌, ◌-◌, ◌*◌, ◌/◌, ◌^◌, ◌<◌, ◌≡◌, List, pos, ◌*ℤ◌, ◌≤ℤ◌, ◌<ℤ◌}
use Rattle.log_laws.specs.Fraction.{Fraction, whole}
use Rattle.log_laws.specs.LogE.{HoldsLogE}
use Rattle.case_types.specs.declared.cases.Case.{Case}
use Rattle.case_types.specs.Energy.Components.{critical_temperature, critical_pressure}
use Rattle.log_laws.specs.Between.{Ends, IsBetween}
use Rattle.case_types.specs.Arithmetic.Tables.{ends_at}

-- the place of a pair of components i < j in the order 12, 13, 14, 23, 24, 34
abbrev pub pair_place : ℕ → ℕ → ℕ
pair_place i j = i * (5 - i) / 2 + j - 1

-- the printed pairs
pub record Enclosures : Type 0 where
  -- the root of 2 in 2^-60
  pub root_two : Ends
  -- log2 e in 2^-40
  pub log_e : Ends
  -- of each component the root of T over Tc in 2^-48
  pub temperature_roots : List Ends
  -- of each pair the root of the product of the critical pressures in 2^-32
  pub pressure_roots : List Ends

-- the root of num / den times 2 ^ scale lies between the ends, which are positive
pub record HoldsRoot (v : Ends) (num den scale : ℕ) : Type 0 where
  pub positive : pos 0 <ℤ v.lo
  pub positive_above : pos 0 <ℤ v.hi
  pub above : (v.lo *ℤ v.lo *ℤ pos den) ≤ℤ pos (num * 4 ^ scale)
  pub below : pos (num * 4 ^ scale) ≤ℤ (v.hi *ℤ v.hi *ℤ pos den)

-- the printed pairs hold what they stand for
pub record AreRight (c : Case) (e : Enclosures) : Type 0 where
  pub root_two : HoldsRoot e.root_two 2 1 60
  pub log_e : HoldsLogE e.log_e
  pub temperature_roots : (i : ℕ) → i < c.n → HoldsRoot (ends_at e.temperature_roots i) c.t (critical_temperature c i) 48
  pub pressure_roots : (i j : ℕ) → i < j → j < c.n →
      HoldsRoot (ends_at e.pressure_roots (pair_place i j)) (critical_pressure c i * critical_pressure c j) 1 32

-- a choice of one fraction for each root and for log2 e
pub record Instance : Type 0 where
  pub root_two : Fraction
  pub log_e : Fraction
  pub temperature_root : ℕ → Fraction
  pub pressure_root : ℕ → ℕ → Fraction

-- each choice lies inside its printed pair
pub record IsInstance (c : Case) (e : Enclosures) (x : Instance) : Type 0 where
  pub root_two : IsBetween e.root_two (2 ^ 60) x.root_two
  pub log_e : IsBetween e.log_e (2 ^ 40) x.log_e
  pub temperature_root : (i : ℕ) → i < c.n → IsBetween (ends_at e.temperature_roots i) (2 ^ 48) (x.temperature_root i)
  pub pressure_root : (i j : ℕ) → i < j → j < c.n → IsBetween (ends_at e.pressure_roots (pair_place i j)) (2 ^ 32) (x.pressure_root i j)
  pub own_pressure : (i : ℕ) → i < c.n → x.pressure_root i i ≡ whole (pos (critical_pressure c i))
  pub either_way : (i j : ℕ) → x.pressure_root i j ≡ x.pressure_root j i
