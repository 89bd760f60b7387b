-- Peng and Robinson's parameters of an instance, with R cancelled: exact fractions.
use Rattle.std.specs.Prelude.{ℕ, ◌*◌, ◌^◌, ℤ, pos, ◌+ℤ◌, ◌-ℤ◌, ◌*ℤ◌, int_le, if◌then◌else◌}
use Rattle.log_laws.specs.Fraction.{Fraction, whole, sum_of, difference, product_of, quotient_of}
use Rattle.log_laws.specs.LogSum.{ratio}
use Rattle.case_types.specs.declared.cases.Case.{Case}
use Rattle.case_types.specs.declared.cases.Edition.{Edition}
use Rattle.case_types.specs.declared.cases.Edition.TheVariants.{Y1976, Y1978}
use Rattle.case_types.specs.Energy.Components.{critical_temperature, critical_pressure, acentric_factor, interaction}
use Rattle.case_types.specs.Energy.Instances.{Instance}

-- ---- kappa, from the acentric factor in 1e-4
-- what kappa is over
abbrev pub kappa_scale : ℕ
kappa_scale = 10 ^ 18

-- a + b w - c w^2
abbrev pub parabola : ℤ → ℤ → ℤ → ℤ → ℤ
parabola a b c w = a +ℤ b *ℤ w -ℤ c *ℤ w *ℤ w

-- 0.37464 + 1.54226 w - 0.26992 w^2: Peng and Robinson 1976
abbrev pub kappa_1976 : ℤ → ℤ
kappa_1976 w = parabola (pos (37464 * 10 ^ 13)) (pos (154226 * 10 ^ 9)) (pos (26992 * 10 ^ 5)) w

-- 0.379642 + 1.48503 w - 0.164423 w^2 + 0.016666 w^3: Robinson and Peng 1978
abbrev pub kappa_1978 : ℤ → ℤ
kappa_1978 w = parabola (pos (379642 * 10 ^ 12)) (pos (148503 * 10 ^ 9)) (pos (164423 * 10 ^ 4)) w +ℤ pos 16666 *ℤ w *ℤ w *ℤ w

-- kappa by the edition, which differs above an acentric factor of 0.49 alone
abbrev pub kappa_of : Edition → ℤ → ℤ
kappa_of Y1976 w = kappa_1976 w
kappa_of Y1978 w = if int_le w (pos 4900) then kappa_1976 w else kappa_1978 w

-- ---- the constants of Peng and Robinson
-- the numerator of 0.0778 P Tc / (Pc T)
abbrev pub covolume_num : Case → ℕ → ℕ
covolume_num c i = 389 * c.p * critical_temperature c i

-- its denominator
abbrev pub covolume_den : Case → ℕ → ℕ
covolume_den c i = 5000 * critical_pressure c i * c.t

-- the numerator of (1 - k) 0.45724 P Tc_i Tc_j / T^2, the attraction of two components without alpha and without the root of Pc_i Pc_j
abbrev pub cohesion_num : Case → ℕ → ℕ → ℤ
cohesion_num c i j =
    (pos 10000 -ℤ interaction c i j) *ℤ pos (11431 * c.p * critical_temperature c i * critical_temperature c j)

-- its denominator
abbrev pub cohesion_den : Case → ℕ
cohesion_den c = 250000000 * c.t ^ 2

-- ---- the parameters
-- B_i
abbrev pub covolume : Case → ℕ → Fraction
covolume c i = ratio (covolume_num c i) (covolume_den c i)

-- m_i: the root of Peng and Robinson's alpha, 1 + kappa (1 - root of T/Tc)
abbrev pub alpha_root : Case → Instance → ℕ → Fraction
alpha_root c x i =
    let kappa : Fraction = record { num = kappa_of c.edition (acentric_factor c i); den = kappa_scale } in
    sum_of (whole (pos 1)) (product_of kappa (difference (whole (pos 1)) (x.temperature_root i)))

-- the attraction of two components without alpha
abbrev pub bare_attraction : Case → Instance → ℕ → ℕ → Fraction
bare_attraction c x i j = quotient_of (record { num = cohesion_num c i j; den = cohesion_den c }) (x.pressure_root i j)

-- A_ij
abbrev pub attraction : Case → Instance → ℕ → ℕ → Fraction
attraction c x i j = product_of (product_of (bare_attraction c x i j) (alpha_root c x i)) (alpha_root c x j)
