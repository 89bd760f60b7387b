-- The argument of the attraction term, (1 + y + s y) / (1 + y - s y), as a quotient of whole numbers.
use Rattle.std.proofs.Common.{ℕ, zero, suc, ◌+◌, ◌*◌, ◌^◌, ◌≤◌, ◌<◌, ◌≡◌, ap, arith, lit<, ℤ, pos, negsuc, ◌*ℤ◌, ◌≤ℤ◌}
use Rattle.std.proofs.Math.Nat.{mul-le-mul_right, le_of_mul-le-mul_right}
use borrow.Author.Differences.{up, le_out, lt_out, product_is}
use Rattle.log_laws.specs.Between.{IsBetween}
use Rattle.log_laws.specs.Fraction.{Fraction, sum_of, difference, product_of}
use Rattle.log_laws.specs.LogSum.{ratio, IsPositive}
use Rattle.log_laws.proofs.Exports.{IsParts, parts_one, parts_ratio, parts_sum, parts_product, parts_negated, parts_respelled, product_pos, fraction_one, parts_quotient, quotient_of_parts, by_ratio, order_of_ratios}
use Rattle.case_types.specs.Energy.Divisions.{State, IsState, attraction_argument}
use Rattle.pr_params.specs.Packings.{IsPacking}

-- ---- positive fractions
up_positive : (z : ℤ) (d w : ℕ) → 0 < w → (pos w) ≤ℤ (z *ℤ pos d) → 0 < up z
up_positive (pos zero) d w h l = let q = le_out (pos w) (pos 0 *ℤ pos d) l in absurd (omega (arith, q, product_is (pos 0) (pos d)))
up_positive (pos (suc n)) d w h l = omega arith
up_positive (negsuc n) d w h l = let q = le_out (pos w) (negsuc n *ℤ pos d) l in absurd (omega (arith, q, product_is (negsuc n) (pos d)))

-- what lies between positive ends is positive
pub positive_between : (l scale : ℕ) (hi : ℤ) (f : Fraction) → 0 < l → IsBetween (record { lo = pos l; hi = hi }) scale f → IsPositive f
positive_between l scale hi f h b = (b.is_fraction, up_positive f.num scale (l * f.den) (product_pos l f.den h b.is_fraction) b.above)

-- so is a packing
pub packing_positive : (y : Fraction) → IsPacking y → IsPositive y
packing_positive y p = (p.is_fraction, (let l = lt_out (pos 0) y.num p.not_empty in omega (arith, l)))

-- ---- packings
-- the packing of a state
pub state_packing : (n : ℕ) (f : State) → IsState n f → IsPacking f.packing
state_packing n f s = record { is_fraction = s.is_fraction; not_empty = s.not_empty; not_full = s.not_full }

-- what the packing yn / yd leaves of 1
pub rest_parts : (un yn yd : ℕ) → 0 < yd → un + yn ≡ yd → IsParts (difference fraction_one (ratio yn yd)) un 0 yd
rest_parts un yn yd pyd is = parts_respelled (parts_sum parts_one (parts_negated (parts_ratio yn yd pyd))) pyd (exact un yn yd is)
  where
    exact : (u n d : ℕ) → u + n ≡ d → (1 * d + 0 * 1) * d + 0 * (1 * d) ≡ u * (1 * d) + (0 * d + n * 1) * d
    exact u n d e = let e' : (u + n) * d ≡ d * d = ap (λ (x : ℕ). x * d) e in omega arith

-- ---- the root sn/sd between its ends, and the packing yn/yd
pub record IsRoot (sn sd sl sh : ℕ) : Type 0 where
  pub num_pos : 0 < sn
  pub den_pos : 0 < sd
  pub from : sl * sd ≤ sn * 2 ^ 60
  pub to : sn * 2 ^ 60 ≤ sh * sd
  pub narrow : 2 * sh ≤ 3 * 2 ^ 60

pub record IsShare (yn yd : ℕ) : Type 0 where
  pub num_pos : 0 < yn
  pub below : yn < yd

-- 1 + y - s * y is positive
pub room : (sn sd sl sh yn yd : ℕ) → IsRoot sn sd sl sh → IsShare yn yd → sn * yn < yd * sd + yn * sd
room sn sd sl sh yn yd r p =
    let a : sn * 2 ^ 60 ≤ sh * sd = r.to in
    let b : 2 * sh * sd ≤ 3 * 2 ^ 60 * sd = mul-le-mul_right sd r.narrow in
    let c : 2 * sn ≤ 3 * sd = le_of_mul-le-mul_right {k = 2 ^ 60} (omega arith) (lit< tt) in
    let c' : 2 * sn * yn ≤ 3 * sd * yn = mul-le-mul_right yn c in
    let d : (yn + 1) * sd ≤ yd * sd = mul-le-mul_right sd (let q = p.below in omega arith) in
    let e = r.den_pos in omega arith

-- a fact on roots and packings, from one on quotients of whole numbers
pub by_quotients : (P : Fraction → Fraction → Type 0) (s y : Fraction) (sl sh : ℕ) → 0 < sl → 2 * sh ≤ 3 * 2 ^ 60 →
    IsBetween (record { lo = pos sl; hi = pos sh }) (2 ^ 60) s → IsPacking y →
    ((sn sd yn yd : ℕ) → IsRoot sn sd sl sh → IsShare yn yd → P (ratio sn sd) (ratio yn yd)) → P s y
by_quotients P s y sl sh some narrow between packing k =
    by_ratio (λ s. IsBetween (record { lo = pos sl; hi = pos sh }) (2 ^ 60) s → P s y) s (positive_between sl (2 ^ 60) (pos sh) s some between)
    (λ sn sd psn psd b. by_ratio (λ y. IsPacking y → P (ratio sn sd) y) y (packing_positive y packing)
    (λ yn yd pyn pyd p. k sn sd yn yd
    (record {
      num_pos = psn;
      den_pos = psd;
      from = order_of_ratios sl (2 ^ 60) sn sd (lit< tt) psd b.above;
      to = order_of_ratios sn sd sh (2 ^ 60) psd (lit< tt) b.below;
      narrow = narrow;
    })
    (record { num_pos = pyn; below = (let l = lt_out (pos yn) (pos yd) p.not_full in omega (arith, l)) })) packing) between

-- ---- the argument
module _ (sn sd yn yd Rd : ℕ) (psd : 0 < sd) (pyd : 0 < yd) (pRd : 0 < Rd) (Rd_is : Rd + sn * yn ≡ yd * sd + yn * sd) where
  one_more : IsParts (sum_of fraction_one (ratio yn yd)) (yd + yn) 0 yd
  one_more = parts_respelled (parts_sum parts_one (parts_ratio yn yd pyd)) pyd (omega arith)

  share : IsParts (product_of (ratio sn sd) (ratio yn yd)) (sn * yn) 0 (yd * sd)
  share = parts_respelled (parts_product (parts_ratio sn sd psd) (parts_ratio yn yd pyd)) (product_pos yd sd pyd psd) (omega arith)

  over_parts : IsParts (sum_of (sum_of fraction_one (ratio yn yd)) (product_of (ratio sn sd) (ratio yn yd))) (yd * sd + yn * sd + sn * yn) 0 (yd * sd)
  over_parts = parts_respelled (parts_sum one_more share) (product_pos yd sd pyd psd) (omega arith)

  under_parts : IsParts (difference (sum_of fraction_one (ratio yn yd)) (product_of (ratio sn sd) (ratio yn yd))) Rd 0 (yd * sd)
  under_parts = parts_respelled (parts_sum one_more (parts_negated share)) (product_pos yd sd pyd psd) (exact (sn * yn) yd sd yn Rd Rd_is)
    where
      exact : (v yd sd yn Rd : ℕ) → Rd + v ≡ yd * sd + yn * sd →
          ((yd + yn) * (yd * sd) + 0 * yd) * (yd * sd) + 0 * (yd * (yd * sd)) ≡ Rd * (yd * (yd * sd)) + (0 * (yd * sd) + v * yd) * (yd * sd)
      exact v yd sd yn Rd e = let e' : (Rd + v) * (yd * yd * sd) ≡ (yd * sd + yn * sd) * (yd * yd * sd) = ap (λ (x : ℕ). x * (yd * yd * sd)) e in omega arith

  pub argument_parts : IsParts (attraction_argument (ratio sn sd) (ratio yn yd)) (yd * sd + yn * sd + sn * yn) 0 Rd
  argument_parts =
      parts_respelled (parts_quotient over_parts (quotient_of_parts under_parts pRd) pRd (product_pos yd sd pyd psd)) pRd (omega arith)
