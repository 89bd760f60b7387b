-- What is computed of each component and of each pair is what the definitions say.
use Rattle.std.proofs.Common.{◌≡◌, ℕ, ◌+◌, ◌*◌, ◌/◌, ◌^◌, ◌<◌, ◌≤◌, ℤ, pos, ◌+ℤ◌, ◌-ℤ◌, ◌*ℤ◌, refl, lit<, arith}
use Rattle.std.proofs.Math.Nat.{mul-le-mul}
use Rattle.std.specs.Int.{int_min, int_max}
use Rattle.log_laws.specs.Whole.{floor_over, ceil_over, ceil_quotient}
use Rattle.log_laws.proofs.Exports.{ceil_over-pos}
use Rattle.log_laws.specs.Interval.{ends}
use Rattle.case_types.specs.declared.cases.Case.{Case}
use Rattle.case_types.specs.Energy.Components.{acentric_factor}
use Rattle.case_types.specs.Arithmetic.Numbers.{lift_of}
use Rattle.case_types.specs.Energy.Parameters.{kappa_of, kappa_scale, covolume_num, covolume_den}
use Rattle.pr_params.specs.Entries.{temperature_entry, alpha_entry, covolume_entry, bare_entry, attraction_entry, ratio_entry}
use Rattle.pr_params.proofs.Components.{den_positive_at}

-- ---- of a component
pub covolume_made : (c : Case) (i num den lift : ℕ) (lo hi : ℤ) → i < c.n → lift ≡ lift_of c →
    num ≡ covolume_num c i → den ≡ covolume_den c i →
    lo ≡ pos (num * 2 ^ (56 + lift) / den) → hi ≡ pos (ceil_quotient (num * 2 ^ (56 + lift)) den) → ends lo hi ≡ covolume_entry c i
unfolding covolume_entry
covolume_made c i num den lift lo hi h l n d low high =
    rw (low, high, n, d, ← ceil_over-pos (covolume_num c i * 2 ^ (56 + lift)) (covolume_den c i) (den_positive_at c i h), l) refl

pub alpha_made : (c : Case) (i : ℕ) (kappa lo hi rlo rhi : ℤ) → kappa ≡ kappa_of c.edition (acentric_factor c i) → ends rlo rhi ≡ temperature_entry c i →
    lo ≡ pos (2 ^ 48) +ℤ floor_over (int_min (kappa *ℤ (pos (2 ^ 48) -ℤ rlo)) (kappa *ℤ (pos (2 ^ 48) -ℤ rhi))) kappa_scale →
    hi ≡ pos (2 ^ 48) +ℤ ceil_over (int_max (kappa *ℤ (pos (2 ^ 48) -ℤ rlo)) (kappa *ℤ (pos (2 ^ 48) -ℤ rhi))) kappa_scale →
    ends lo hi ≡ alpha_entry c i
unfolding alpha_entry
alpha_made c i kappa lo hi rlo rhi k r low high = rw (low, high, k, ← r) refl

-- ---- of a pair
pub attraction_made : (c : Case) (i j a hb m p k q lo hi : ℕ) → ends (pos a) (pos hb) ≡ bare_entry c i j →
    ends (pos m) (pos p) ≡ alpha_entry c i → ends (pos k) (pos q) ≡ alpha_entry c j →
    lo ≡ a * (m * k / 2 ^ 48) / 2 ^ 46 → hi ≡ ceil_quotient (hb * ceil_quotient (p * q) (2 ^ 48)) (2 ^ 46) → ends (pos lo) (pos hi) ≡ attraction_entry c i j
unfolding attraction_entry
attraction_made c i j a hb m p k q lo hi eb em ek low high =
    rw (low, high, ← eb, ← em, ← ek, ceil_over-pos (p * q) (2 ^ 48) (lit< tt), ceil_over-pos (hb * ceil_quotient (p * q) (2 ^ 48)) (2 ^ 46) (lit< tt)) refl

pub attraction_ordered : (a hb m p k q : ℕ) → a ≤ hb → m ≤ p → k ≤ q → a * (m * k / 2 ^ 48) / 2 ^ 46 ≤ ceil_quotient (hb * ceil_quotient (p * q) (2 ^ 48)) (2 ^ 46)
attraction_ordered a hb m p k q h g l =
    let squares = mul-le-mul g l in
    let inner : m * k / 2 ^ 48 ≤ ceil_quotient (p * q) (2 ^ 48) = omega (arith, squares) in
    let outer = mul-le-mul h inner in omega (arith, outer)

pub ratio_made : (c : Case) (i j a b r : ℕ) → 0 < b → (attraction_entry c i j).hi ≡ pos a → (covolume_entry c i).lo ≡ pos b → r ≡ ceil_quotient (a * 2 ^ 47) b →
    pos r ≡ ratio_entry c i j
unfolding ratio_entry
ratio_made c i j a b r some ea eb er = rw (ea, eb, er, ceil_over-pos (a * 2 ^ 47) b some) refl
