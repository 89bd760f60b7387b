-- The attraction of two components lies between the ends that are made from those of its roots.
use Rattle.std.proofs.Common.{◌≡◌, ℕ, zero, suc, ◌+◌, ◌*◌, ◌/◌, ◌^◌, ◌<◌, ◌≤◌, ℤ, pos, negsuc, ◌*ℤ◌, ◌≤ℤ◌, ◌<ℤ◌, refl, ap, arith, lit<}
use Rattle.std.proofs.lemmas.Int.{ints}
use Rattle.std.proofs.lemmas.Nat.{pow-add}
use Rattle.std.proofs.Math.Nat.{mul-le-mul, mul-le-mul_left, mul-le-mul_right, div-mul-le_self}
use Rattle.log_laws.specs.Between.{Ends, IsBetween}
use Rattle.log_laws.specs.Fraction.{Fraction, product_of, quotient_of}
use Rattle.log_laws.specs.LogSum.{ratio}
use Rattle.log_laws.specs.Whole.{floor_div, ceil_div, ceil_quotient}
use Rattle.log_laws.proofs.Exports.{product_pos, ceil_over-pos, le-ceiling}
use Rattle.case_types.specs.Arithmetic.Numbers.{attraction_ends}

-- ---- between natural ends
-- the fraction u / d is at least 0 and lies between a / scale and b / scale
pub record IsAmong (a b scale u d : ℕ) : Type 0 where
  pub d_pos : 0 < d
  pub above : a * d ≤ u * scale
  pub below : u * scale ≤ b * d

pub between_of_among : (a b scale u d : ℕ) → IsAmong a b scale u d → IsBetween (record { lo = pos a; hi = pos b }) scale (ratio u d)
between_of_among a b scale u d h = record { is_fraction = h.d_pos; above = omega (arith, ints, h.above); below = omega (arith, ints, h.below) }

pub among_of_between : (a b scale u d : ℕ) → IsBetween (record { lo = pos a; hi = pos b }) scale (ratio u d) → IsAmong a b scale u d
among_of_between a b scale u d h = record { d_pos = h.is_fraction; above = (let p = h.above in omega (arith, ints, p)); below = (let p = h.below in omega (arith, ints, p)) }

-- where the lower end isn't negative, neither is the fraction nor the upper end
pub by_among : (P : Ends → Fraction → Type 0) (v : Ends) (scale : ℕ) (f : Fraction) → pos 0 ≤ℤ v.lo → IsBetween v scale f → 0 < scale →
    ((a b u d : ℕ) → v.lo ≡ pos a → IsAmong a b scale u d → P (record { lo = pos a; hi = pos b }) (ratio u d)) → P v f
by_among P v scale f low h some k = made v.lo v.hi f.num f.den low h.is_fraction some h.above h.below (λ a b u d e. k a b u d e)
  where
    made : (lo hi num : ℤ) (den : ℕ) → pos 0 ≤ℤ lo → 0 < den → 0 < scale → (lo *ℤ pos den) ≤ℤ (num *ℤ pos scale) → (num *ℤ pos scale) ≤ℤ (hi *ℤ pos den) →
        ((a b u d : ℕ) → lo ≡ pos a → IsAmong a b scale u d → P (record { lo = pos a; hi = pos b }) (ratio u d)) →
        P (record { lo = lo; hi = hi }) (record { num = num; den = den })
    made (pos a) (pos b) (pos u) den low some scaled above below k = k a b u den refl (record { d_pos = some; above = omega (arith, ints, above); below = omega (arith, ints, below) })
    made (pos a) (negsuc b) (pos u) den low some scaled above below k = absurd (omega (arith, ints, below, product_pos (suc b) den (omega arith) some))
    made (pos a) hi (negsuc u) den low some scaled above below k = absurd (omega (arith, ints, above, product_pos (suc u) scale (omega arith) scaled))
    made (negsuc a) hi num den low some scaled above below k = absurd (omega (arith, ints, low))

-- ---- the attraction without alpha: f / g over the root u / d
bare_low : (f g b lift u d : ℕ) → u * 2 ^ 32 ≤ b * d →
    f * 2 ^ (79 + lift) / (g * b) * (g * u) ≤ f * d * 2 ^ (47 + lift)
bare_low f g b lift u d below =
    let lo = f * 2 ^ (79 + lift) / (g * b) in
    let floor = div-mul-le_self (f * 2 ^ (79 + lift)) (g * b) in
    let floor' = mul-le-mul_right d floor in
    let root = mul-le-mul_left (lo * g) below in
    let e : 2 ^ (79 + lift) ≡ 2 ^ 79 * 2 ^ lift = pow-add 2 79 lift in
    let e' : 2 ^ (47 + lift) ≡ 2 ^ 47 * 2 ^ lift = pow-add 2 47 lift in
    let p : f * 2 ^ (79 + lift) * d ≡ f * (2 ^ 79 * 2 ^ lift) * d = ap (λ x. f * x * d) e in
    let q : f * d * 2 ^ (47 + lift) ≡ f * d * (2 ^ 47 * 2 ^ lift) = ap (λ x. f * d * x) e' in
    omega (arith, floor', root, p, q)

bare_high : (f g a lift u d : ℕ) → 0 < g → 0 < a → a * d ≤ u * 2 ^ 32 →
    f * d * 2 ^ (47 + lift) ≤ ceil_quotient (f * 2 ^ (79 + lift)) (g * a) * (g * u)
bare_high f g a lift u d pg pa above =
    let hi = ceil_quotient (f * 2 ^ (79 + lift)) (g * a) in
    let ceil = mul-le-mul_right d (le-ceiling (f * 2 ^ (79 + lift)) (g * a) (product_pos g a pg pa)) in
    let root = mul-le-mul_left (hi * g) above in
    let e : 2 ^ (79 + lift) ≡ 2 ^ 79 * 2 ^ lift = pow-add 2 79 lift in
    let e' : 2 ^ (47 + lift) ≡ 2 ^ 47 * 2 ^ lift = pow-add 2 47 lift in
    let p : f * 2 ^ (79 + lift) * d ≡ f * (2 ^ 79 * 2 ^ lift) * d = ap (λ x. f * x * d) e in
    let q : f * d * 2 ^ (47 + lift) ≡ f * d * (2 ^ 47 * 2 ^ lift) = ap (λ x. f * d * x) e' in
    omega (arith, ceil, root, p, q)

-- a root that isn't 0 has a numerator that isn't
numerator_pos : (a u d scale : ℕ) → 0 < a → 0 < d → a * d ≤ u * scale → 0 < u
numerator_pos a zero d scale pa pd h = absurd (let p = product_pos a d pa pd in omega (arith, p, h))
numerator_pos a (suc u) d scale pa pd h = omega arith

pub bare_within : (f g lift : ℕ) (q : Ends) (t : Fraction) → 0 < g → pos 0 <ℤ q.lo → IsBetween q (2 ^ 32) t →
    IsBetween
    (record { lo = floor_div (pos f *ℤ pos (2 ^ (79 + lift))) (pos g *ℤ q.hi); hi = ceil_div (pos f *ℤ pos (2 ^ (79 + lift))) (pos g *ℤ q.lo) })
    (2 ^ (47 + lift)) (quotient_of (record { num = pos f; den = g }) t)
bare_within f g lift q t pg low h =
    by_among
    (λ q t. IsBetween (record { lo = floor_div (pos f *ℤ pos (2 ^ (79 + lift))) (pos g *ℤ q.hi); hi = ceil_div (pos f *ℤ pos (2 ^ (79 + lift))) (pos g *ℤ q.lo) })
    (2 ^ (47 + lift)) (quotient_of (record { num = pos f; den = g }) t))
    q (2 ^ 32) t (omega (arith, ints, low)) h (lit< tt)
    (λ a b u d e k. at_ends a b u d (let l = rw e at low in omega (arith, ints, l)) k)
  where
    at_ends : (a b u d : ℕ) → 0 < a → IsAmong a b (2 ^ 32) u d →
        IsBetween (record { lo = pos (f * 2 ^ (79 + lift) / (g * b)); hi = ceil_div (pos (f * 2 ^ (79 + lift))) (pos (g * a)) }) (2 ^ (47 + lift)) (ratio (f * d) (g * u))
    at_ends a b u d pa k =
        let pu : 0 < u = numerator_pos a u d (2 ^ 32) pa k.d_pos k.above in
        rw (ceil_over-pos (f * 2 ^ (79 + lift)) (g * a) (product_pos g a pg pa))
        (between_of_among (f * 2 ^ (79 + lift) / (g * b)) (ceil_quotient (f * 2 ^ (79 + lift)) (g * a)) (2 ^ (47 + lift)) (f * d) (g * u) (record {
          d_pos = product_pos g u pg pu;
          above = bare_low f g b lift u d k.below;
          below = bare_high f g a lift u d pg pa k.above;
        }))

-- ---- the attraction: that without alpha times two roots of alpha
attraction_low : (a b e lift hu hd mu md nu nd : ℕ) → a * hd ≤ hu * 2 ^ (47 + lift) → b * md ≤ mu * 2 ^ 48 → e * nd ≤ nu * 2 ^ 48 →
    a * (b * e / 2 ^ 48) / 2 ^ 46 * (hd * md * nd) ≤ hu * mu * nu * 2 ^ (49 + lift)
attraction_low a b e lift hu hd mu md nu nd h m n =
    let w = b * e / 2 ^ 48 in
    let lo = a * w / 2 ^ 46 in
    let outer = div-mul-le_self (a * w) (2 ^ 46) in
    let inner = mul-le-mul_left a (div-mul-le_self (b * e) (2 ^ 48)) in
    let both : lo * 2 ^ 94 ≤ a * (b * e) = omega (arith, outer, inner) in
    let scaled = mul-le-mul_right (hd * md * nd) both in
    let h' : a * hd ≤ hu * (2 ^ 47 * 2 ^ lift) = rw (pow-add 2 47 lift) at h in
    let all = mul-le-mul (mul-le-mul h' m) n in
    rw (pow-add 2 49 lift) (omega (arith, scaled, all))

attraction_high : (a b e lift hu hd mu md nu nd : ℕ) → hu * 2 ^ (47 + lift) ≤ a * hd → mu * 2 ^ 48 ≤ b * md → nu * 2 ^ 48 ≤ e * nd →
    hu * mu * nu * 2 ^ (49 + lift) ≤ ceil_quotient (a * ceil_quotient (b * e) (2 ^ 48)) (2 ^ 46) * (hd * md * nd)
attraction_high a b e lift hu hd mu md nu nd h m n =
    let w = ceil_quotient (b * e) (2 ^ 48) in
    let hi = ceil_quotient (a * w) (2 ^ 46) in
    let outer = le-ceiling (a * w) (2 ^ 46) (lit< tt) in
    let inner = mul-le-mul_left a (le-ceiling (b * e) (2 ^ 48) (lit< tt)) in
    let both : a * (b * e) ≤ hi * 2 ^ 94 = omega (arith, outer, inner) in
    let scaled = mul-le-mul_right (hd * md * nd) both in
    let h' : hu * (2 ^ 47 * 2 ^ lift) ≤ a * hd = rw (pow-add 2 47 lift) at h in
    let all = mul-le-mul (mul-le-mul h' m) n in
    rw (pow-add 2 49 lift) (omega (arith, scaled, all))

pub attraction_within : (h m n : Ends) (lift : ℕ) (f g k : Fraction) → pos 0 ≤ℤ h.lo → pos 0 ≤ℤ m.lo → pos 0 ≤ℤ n.lo → 0 < 2 ^ (47 + lift) →
    IsBetween h (2 ^ (47 + lift)) f → IsBetween m (2 ^ 48) g → IsBetween n (2 ^ 48) k →
    IsBetween (attraction_ends h m n) (2 ^ (49 + lift)) (product_of (product_of f g) k)
attraction_within h m n lift f g k lh lm ln some bh bm bn =
    by_among (λ h f. IsBetween (attraction_ends h m n) (2 ^ (49 + lift)) (product_of (product_of f g) k)) h (2 ^ (47 + lift)) f lh bh some
    (λ a a' hu hd _ ah.
    by_among (λ m g. IsBetween (attraction_ends (record { lo = pos a; hi = pos a' }) m n) (2 ^ (49 + lift)) (product_of (product_of (ratio hu hd) g) k)) m (2 ^ 48) g lm bm (lit< tt)
    (λ b b' mu md _ am.
    by_among (λ n k. IsBetween (attraction_ends (record { lo = pos a; hi = pos a' }) (record { lo = pos b; hi = pos b' }) n) (2 ^ (49 + lift)) (product_of (product_of (ratio hu hd) (ratio mu md)) k)) n (2 ^ 48) k ln bn (lit< tt)
    (λ e e' nu nd _ an. at_ends a a' b b' e e' hu hd mu md nu nd ah am an)))
  where
    at_ends : (a a' b b' e e' hu hd mu md nu nd : ℕ) → IsAmong a a' (2 ^ (47 + lift)) hu hd → IsAmong b b' (2 ^ 48) mu md → IsAmong e e' (2 ^ 48) nu nd →
        IsBetween (attraction_ends (record { lo = pos a; hi = pos a' }) (record { lo = pos b; hi = pos b' }) (record { lo = pos e; hi = pos e' }))
        (2 ^ (49 + lift)) (ratio (hu * mu * nu) (hd * md * nd))
    at_ends a a' b b' e e' hu hd mu md nu nd ah am an =
        let w = ceil_quotient (b' * e') (2 ^ 48) in
        rw (ceil_over-pos (b' * e') (2 ^ 48) (lit< tt), ceil_over-pos (a' * w) (2 ^ 46) (lit< tt))
        (between_of_among (a * (b * e / 2 ^ 48) / 2 ^ 46) (ceil_quotient (a' * w) (2 ^ 46)) (2 ^ (49 + lift)) (hu * mu * nu) (hd * md * nd) (record {
          d_pos = product_pos (hd * md) nd (product_pos hd md ah.d_pos am.d_pos) an.d_pos;
          above = attraction_low a b e lift hu hd mu md nu nd ah.above am.above an.above;
          below = attraction_high a' b' e' lift hu hd mu md nu nd ah.below am.below an.below;
        }))
