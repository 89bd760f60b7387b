-- The attraction of two components is the same either way round.
use Rattle.std.proofs.Common.{◌≡◌, ℕ, ◌*◌, ◌<◌, ◌-ℤ◌, ◌*ℤ◌, ℤ, pos, ap₂, arith}
use Rattle.log_laws.specs.Fraction.{Fraction, product_of, quotient_of}
use Rattle.log_laws.proofs.Exports.{fraction_is, mul_right_comm_ℤ}
use Rattle.case_types.specs.declared.cases.Case.{Case}
use Rattle.case_types.specs.Energy.Components.{critical_temperature}
use Rattle.case_types.specs.Energy.Instances.{Instance, Enclosures, IsInstance}
use Rattle.case_types.specs.Energy.Parameters.{alpha_root, attraction, bare_attraction, cohesion_den, cohesion_num}
use Rattle.pr_params.proofs.Components.{interaction_turned}

cohesion_turned : (c : Case) (i j : ℕ) → i < c.n → j < c.n → cohesion_num c i j ≡ cohesion_num c j i
cohesion_turned c i j h g =
    let e : 11431 * c.p * critical_temperature c i * critical_temperature c j ≡ 11431 * c.p * critical_temperature c j * critical_temperature c i = omega arith in
    ap₂ (λ (a : ℤ) (b : ℕ). (pos 10000 -ℤ a) *ℤ pos b) (interaction_turned c i j h g) e

bare_turned : (c : Case) (e : Enclosures) (x : Instance) (i j : ℕ) → IsInstance c e x → i < c.n → j < c.n → bare_attraction c x i j ≡ bare_attraction c x j i
bare_turned c e x i j inst h g =
    ap₂ (λ (a : ℤ) (r : Fraction). quotient_of (record { num = a; den = cohesion_den c }) r) (cohesion_turned c i j h g) (inst.either_way i j)

pub attraction_turned : (c : Case) (e : Enclosures) (x : Instance) (i j : ℕ) → IsInstance c e x → i < c.n → j < c.n → attraction c x i j ≡ attraction c x j i
attraction_turned c e x i j inst h g =
    by_bare (bare_attraction c x i j) (bare_attraction c x j i) (alpha_root c x i) (alpha_root c x j) (bare_turned c e x i j inst h g)
  where
    by_bare : (a b m n : Fraction) → a ≡ b → product_of (product_of a m) n ≡ product_of (product_of b n) m
    by_bare a b m n e =
        rw e
        (fraction_is ((b.num *ℤ m.num) *ℤ n.num) ((b.num *ℤ n.num) *ℤ m.num) (b.den * m.den * n.den) (b.den * n.den * m.den) (mul_right_comm_ℤ b.num n.num m.num) (omega arith))
