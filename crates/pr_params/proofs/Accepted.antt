-- What `Params` keeps of a case, and how large the numbers of one component are.
use Rattle.std.proofs.Common.{◌≡◌, ℕ, zero, suc, ◌*◌, ◌^◌, ◌<◌, ◌≤◌, cond, Bool, true, false, ℤ, pos, negsuc, ◌-ℤ◌, ◌*ℤ◌, ◌≤ℤ◌, refl, sym, ap, arith}
use Rattle.std.proofs.lemmas.Int.{ints}
use Rattle.std.proofs.Math.Nat.{zero-div}
use Rattle.log_laws.specs.Between.{Ends}
use Rattle.log_laws.specs.Squaring.{down, up}
use Rattle.log_laws.specs.Roots.{root_digits, with_digit}
use Rattle.log_laws.specs.Whole.{floor_over, ceil_over, ceil_div}
use Rattle.log_laws.proofs.Exports.{ceil_over-pos}
use Rattle.case_types.specs.declared.cases.Case.{Case}
use Rattle.case_types.specs.Energy.Components.{interaction}
use Rattle.case_types.specs.Arithmetic.Numbers.{Numbers, numbers_of, enclosures_of, lift_up_to, fits_lifted, bare_attraction_ends}
use Rattle.log_laws.specs.Sums.{all_below}
use Rattle.pr_params.specs.declared.numbers.Params.{Params}
use Rattle.pr_params.proofs.Components.{interaction_at_most}
use Rattle.log_laws.proofs.Exports.{ceiling_at_most}

-- ---- what the fields hold
-- the lift that is kept is that of the numbers
pub lift_is : (p : Params) → p.lift ≡ (numbers_of p.case).lift
lift_is p = ap (λ (q : Numbers). q.lift) p.right

-- so is the greatest attraction over a co-volume
pub rho_is : (p : Params) → p.rho ≡ (numbers_of p.case).rho
rho_is p = ap (λ (q : Numbers). q.rho) p.right

-- ---- the lift, the root of 2 and the logarithm of e of every case
-- a lift is at most the given one
lift_within : (c : Case) (k : ℕ) → lift_up_to c k ≤ k
unfolding lift_up_to
lift_within c zero = omega arith
lift_within c (suc k) = near (all_below c.n (λ i. fits_lifted c (suc k) i)) (lift_up_to c k) (lift_within c k)
  where
    near : (b : Bool) (l : ℕ) → l ≤ k → cond b (suc k) l ≤ suc k
    near true l h = omega arith
    near false l h = omega (arith, h)

-- the lift of a case is at most 29
pub lift_small : (c : Case) → (numbers_of c).lift ≤ 29
unfolding numbers_of
lift_small c = lift_within c 29

-- the ends of the root of 2
pub two_exact : (c : Case) → (numbers_of c).root_two ≡ record { lo = pos 1630477228166597776; hi = pos 1630477228166597777 }
unfolding numbers_of enclosures_of root_digits with_digit
two_exact c = refl

-- the ends of the logarithm of e
pub e_exact : (c : Case) → (numbers_of c).log_e ≡ record { lo = pos 1586259924992; hi = pos 1586260020565 }
unfolding numbers_of enclosures_of down up
e_exact c = refl

-- the single ends
pub two_lo_is : (c : Case) → pos 1630477228166597776 ≡ (numbers_of c).root_two.lo
two_lo_is c = ap (λ (v : Ends). v.lo) (sym (two_exact c))

pub two_hi_is : (c : Case) → pos 1630477228166597777 ≡ (numbers_of c).root_two.hi
two_hi_is c = ap (λ (v : Ends). v.hi) (sym (two_exact c))

pub e_lo_is : (c : Case) → pos 1586259924992 ≡ (numbers_of c).log_e.lo
e_lo_is c = ap (λ (v : Ends). v.lo) (sym (e_exact c))

pub e_hi_is : (c : Case) → pos 1586260020565 ≡ (numbers_of c).log_e.hi
e_hi_is c = ap (λ (v : Ends). v.hi) (sym (e_exact c))

-- ---- how large the co-volume is

-- ---- the attraction isn't negative
-- the floor of a number that isn't negative isn't
pub floor_positive : (z : ℤ) (d : ℕ) → pos 0 ≤ℤ z → pos 0 ≤ℤ floor_over z d
floor_positive (pos n) d h = omega (arith, ints)
floor_positive (negsuc n) d h = absurd (omega (arith, ints, h))

-- nor is its ceiling
pub ceiling_positive : (z : ℤ) (d : ℕ) → pos 0 ≤ℤ z → pos 0 ≤ℤ ceil_over z d
ceiling_positive (pos zero) d h = rw (zero-div d) (omega (arith, ints))
ceiling_positive (pos (suc n)) d h = omega (arith, ints)
ceiling_positive (negsuc n) d h = absurd (omega (arith, ints, h))

-- nor is a product of two such numbers
pub product_positive : (a b : ℤ) → pos 0 ≤ℤ a → pos 0 ≤ℤ b → pos 0 ≤ℤ (a *ℤ b)
product_positive (pos a) (pos b) h g = omega (arith, ints)
product_positive (pos a) (negsuc b) h g = absurd (omega (arith, ints, g))
product_positive (negsuc a) b h g = absurd (omega (arith, ints, h))

-- the attraction of two components without alpha isn't negative
pub bare_positive : (c : Case) (lift : ℕ) (q : Ends) (i j : ℕ) → i < c.n → j < c.n → pos 0 ≤ℤ (bare_attraction_ends c lift q i j).lo
bare_positive c lift q i j h g =
    let k = interaction_at_most c i j h g in
    let rest : pos 0 ≤ℤ (pos 10000 -ℤ interaction c i j) = omega (arith, ints, k) in
    floor_positive _ _ (product_positive _ _ (product_positive _ _ rest (omega (arith, ints))) (omega (arith, ints)))

pub bare_high_positive : (c : Case) (lift : ℕ) (q : Ends) (i j : ℕ) → i < c.n → j < c.n → pos 0 ≤ℤ (bare_attraction_ends c lift q i j).hi
bare_high_positive c lift q i j h g =
    let k = interaction_at_most c i j h g in
    let rest : pos 0 ≤ℤ (pos 10000 -ℤ interaction c i j) = omega (arith, ints, k) in
    ceiling_positive _ _ (product_positive _ _ (product_positive _ _ rest (omega (arith, ints))) (omega (arith, ints)))

-- ---- the attraction over the co-volume
-- the ceiling of a ratio of at most 1, in 2 ^ -47, lies from 0 to 2 ^ 47
pub ratio_sizes : (a b : ℤ) → pos 0 ≤ℤ a → a ≤ℤ b → pos 1 ≤ℤ b →
    (pos 0 ≤ℤ ceil_div (a *ℤ pos (2 ^ 47)) b) × (ceil_div (a *ℤ pos (2 ^ 47)) b ≤ℤ pos (2 ^ 47))
ratio_sizes (pos a) (pos b) low le some =
    let d : 0 < b = omega (arith, ints, some) in
    let q = ceiling_at_most (a * 2 ^ 47) b (2 ^ 47) d (omega (arith, ints, le)) in
    rw (ceil_over-pos (a * 2 ^ 47) b d) (omega (arith, ints), omega (arith, ints, q))
ratio_sizes (pos a) (negsuc b) low le some = absurd (omega (arith, ints, some))
ratio_sizes (negsuc a) b low le some = absurd (omega (arith, ints, low))
