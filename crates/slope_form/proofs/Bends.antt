-- x log x: its value at the centre and its change, from the ends that are answered.
use Rattle.std.specs.Prelude.{IfSome}
use Rattle.std.proofs.Common.{ℕ, zero, suc, ◌*◌, ◌^◌, ◌≤◌, ◌<◌, ◌≡◌, refl, sym, ap, arith, lit<, ℤ, pos, negsuc, ◌+ℤ◌, ◌*ℤ◌, ◌≤ℤ◌, unsigned_abs, Option, Some, None}
use Rattle.std.proofs.Math.IntN.{*ℤ_comm, zero-*ℤ}
use Rattle.std.proofs.Math.Nat.{mul-le-mul_left}
use Rattle.std.proofs.lemmas.Int.{ints}
use Rattle.log_laws.specs.Between.{Ends, IsBetween}
use Rattle.log_laws.specs.Fraction.{Fraction, difference, product_of, sum_of, inverse}
use Rattle.log_laws.specs.Interval.{ends, ends_of}
use Rattle.log_laws.specs.LogE.{HoldsLogE}
use Rattle.log_laws.specs.LogSum.{ratio, IsPositive, log_of}
use Rattle.log_laws.specs.Squaring.{log_down, log_up}
use Rattle.log_laws.specs.Whole.{floor_over, ceil_over}
use Rattle.log_laws.specs.declared.iv.Iv.{Iv}
use Rattle.log_laws.proofs.Exports.{floor_over-le, le-ceil_over, le_of_mul-le_ℤ, mul-le_ℤ, product_pos, scale_scale, ≤ℤ_trans}
use Rattle.fix_interval.proofs.Exports.{IsBetween-sum_of, IsBetween-wider}
use Rattle.slope_form.specs.Arithmetic.{capped, sum_of_ends, product_of_ends, log_of_ends, both}
use Rattle.slope_form.specs.Forms.{point_ends, bend_of, x_log_x_ends, two_if}
use Rattle.slope_form.specs.Laws.{KeepsXLogX, x_log_x}
use Rattle.slope_form.specs.Meaning.{IsIn, MeanValue, bits_of}
use Rattle.slope_form.proofs.Capped.{IsCapped, both_some, capped_some, not_below_one}
use Rattle.slope_form.proofs.LogMeanings.{log_in}
use Rattle.slope_form.proofs.ProductMeanings.{turned_in}
use Rattle.slope_form.proofs.Spans.{between_bits, sum_some}
use Rattle.slope_form.proofs.XLogXSlopes.{one_term, x_log_x_end, x_log_x_mean}

pub if_two : (a b m : ℕ) (r : Option (Iv × Iv)) (q : Option (Ends × Ends)) → two_if r ≡ q →
    ((at by : Ends) → q ≡ Some (at, by) → KeepsXLogX a b m at by) →
    IfSome r (λ s. KeepsXLogX a b m (ends_of s.0) (ends_of s.1))
if_two a b m None q e f = tt
if_two a b m (Some s) q e f = f (ends_of s.0) (ends_of s.1) (sym e)

-- ---- the bend
bend_some : (a b m : ℕ) (e d : Ends) → bend_of a b m e ≡ Some d → IsCapped (floor_over (e.lo *ℤ pos a) m) (ceil_over (e.hi *ℤ pos b) m) d
unfolding bend_of
bend_some a b m e d h = capped_some (floor_over (e.lo *ℤ pos a) m) (ceil_over (e.hi *ℤ pos b) m) d h

-- products with a number that isn't negative
times_more : (z : ℤ) (a b : ℕ) → pos 0 ≤ℤ z → a ≤ b → (z *ℤ pos a) ≤ℤ (z *ℤ pos b)
times_more (pos k) a b h l = omega (arith, ints, mul-le-mul_left k l)
times_more (negsuc k) a b h l = absurd (omega (arith, ints, h))

-- e lies in it, and e times a fraction over m
bend_low : (a m : ℕ) (lo : ℤ) → 0 < m → a ≤ m → pos 0 ≤ℤ lo → floor_over (lo *ℤ pos a) m ≤ℤ lo
bend_low a m lo pm l h =
    le_of_mul-le_ℤ (floor_over (lo *ℤ pos a) m) lo m pm
    (≤ℤ_trans (floor_over (lo *ℤ pos a) m *ℤ pos m) (lo *ℤ pos a) (lo *ℤ pos m) (floor_over-le (lo *ℤ pos a) m pm) (times_more lo a m h l))

bend_high : (b m : ℕ) (hi : ℤ) → 0 < m → m ≤ b → pos 0 ≤ℤ hi → hi ≤ℤ ceil_over (hi *ℤ pos b) m
bend_high b m hi pm l h =
    le_of_mul-le_ℤ hi (ceil_over (hi *ℤ pos b) m) m pm
    (≤ℤ_trans (hi *ℤ pos m) (hi *ℤ pos b) (ceil_over (hi *ℤ pos b) m *ℤ pos m) (times_more hi m b h l) (le-ceil_over (hi *ℤ pos b) m pm))

-- at 0
bend_none : (a m n : ℕ) (lo : ℤ) → 0 < m → 0 < n → a * n ≤ 0 → floor_over (lo *ℤ pos a) m ≤ℤ pos 0
bend_none zero m n lo pm pn l =
    le_of_mul-le_ℤ (floor_over (lo *ℤ pos 0) m) (pos 0) m pm
    (≤ℤ_trans (floor_over (lo *ℤ pos 0) m *ℤ pos m) (lo *ℤ pos 0) (pos 0 *ℤ pos m) (floor_over-le (lo *ℤ pos 0) m pm) (rw (*ℤ_comm lo (pos 0), zero-*ℤ lo, zero-*ℤ (pos m)) (omega (arith, ints))))
bend_none (suc a) m n lo pm pn l = absurd (omega (arith, l, pn))

-- three scales in a row
scales : (d : ℤ) (m n k : ℕ) → d *ℤ pos (k * (n * m)) ≡ ((d *ℤ pos m) *ℤ pos n) *ℤ pos k
scales d m n k =
    let e : k * (n * m) ≡ m * (n * k) = omega arith in
    rw (e, scale_scale (d *ℤ pos m) n k, scale_scale d m (n * k)) refl

bend_at : (a b m p n : ℕ) (e : Ends) (z : ℤ) → 0 < m → 0 < n → a * n ≤ p * 2 ^ 40 → p * 2 ^ 40 ≤ b * n → pos 0 ≤ℤ e.lo → e.lo ≤ℤ z → z ≤ℤ e.hi →
    IsBetween (ends (floor_over (e.lo *ℤ pos a) m) (ceil_over (e.hi *ℤ pos b) m)) (2 ^ 40) (product_of (bits_of z) (product_of (ratio p n) (inverse (ratio m (2 ^ 40)))))
bend_at a b m p n e z pm pn l h e0 le he =
    let f = floor_over (e.lo *ℤ pos a) m in
    let c = ceil_over (e.hi *ℤ pos b) m in
    let q = p * 2 ^ 40 in
    let h0 : pos 0 ≤ℤ e.hi = omega (arith, ints, e0, le, he) in
    let f1 = mul-le_ℤ (f *ℤ pos m) (e.lo *ℤ pos a) n (floor_over-le (e.lo *ℤ pos a) m pm) in
    let f2 = rw (scale_scale e.lo a n) at f1 in
    let f3 = times_more e.lo (a * n) q e0 l in
    let f4 = mul-le_ℤ e.lo z q le in
    let f5 = ≤ℤ_trans ((f *ℤ pos m) *ℤ pos n) (e.lo *ℤ pos (a * n)) (z *ℤ pos q) f2
    (≤ℤ_trans (e.lo *ℤ pos (a * n)) (e.lo *ℤ pos q) (z *ℤ pos q) f3 f4) in
    let c1 = mul-le_ℤ (e.hi *ℤ pos b) (c *ℤ pos m) n (le-ceil_over (e.hi *ℤ pos b) m pm) in
    let c2 = rw (scale_scale e.hi b n) at c1 in
    let c3 = times_more e.hi q (b * n) h0 h in
    let c4 = mul-le_ℤ z e.hi q he in
    let c5 = ≤ℤ_trans (z *ℤ pos q) (e.hi *ℤ pos q) ((c *ℤ pos m) *ℤ pos n) c4
    (≤ℤ_trans (e.hi *ℤ pos q) (e.hi *ℤ pos (b * n)) ((c *ℤ pos m) *ℤ pos n) c3 c2) in
    record {
      is_fraction = product_pos (2 ^ 40) (n * m) (lit< tt) (product_pos n m pn pm);
      above = rw (scales f m n (2 ^ 40)) (mul-le_ℤ ((f *ℤ pos m) *ℤ pos n) (z *ℤ pos q) (2 ^ 40) f5);
      below = rw (scales c m n (2 ^ 40)) (mul-le_ℤ (z *ℤ pos q) ((c *ℤ pos m) *ℤ pos n) (2 ^ 40) c5);
    }

-- ---- the meaning
abbrev centre : ℕ → Fraction
centre m = ratio (suc m) (2 ^ 40)

-- from the logarithm l of m and the bend d
change_of : (a b m : ℕ) (e by l d : Ends) → a ≤ suc m → suc m ≤ b → HoldsLogE e → e.lo ≤ℤ e.hi → l.lo ≤ℤ l.hi → IsIn l (log_of (centre m)) →
    IsCapped (floor_over (e.lo *ℤ pos a) (suc m)) (ceil_over (e.hi *ℤ pos b) (suc m)) d → IsCapped (l.lo +ℤ d.lo) (l.hi +ℤ d.hi) by →
    (p n : ℕ) → 0 < n → a * n ≤ p * 2 ^ 40 → p * 2 ^ 40 ≤ b * n →
    MeanValue by (difference (ratio p n) (centre m)) (x_log_x (suc m) (2 ^ 40)) (x_log_x p n)
change_of a b m e by l d la lb he oe ol i cd cb zero n pn low high =
    let e0 = he.positive_above in
    let d0 : d.lo ≤ℤ pos 0 = rw cd.lo_is (bend_none a (suc m) n e.lo (omega arith) pn (omega (arith, low))) in
    let dh : e.hi ≤ℤ d.hi = rw cd.hi_is (bend_high b (suc m) e.hi (omega arith) lb (omega (arith, ints, e0))) in
    let bl = cb.lo_is in
    let bh = cb.hi_is in
    x_log_x_end by l (centre m) (ratio 0 n) (lit< tt, omega arith) pn refl i
    (between_bits by l.lo (omega (arith, ints, bl, d0)) (omega (arith, ints, bh, dh, e0, ol)))
    (between_bits by l.hi (omega (arith, ints, bl, d0, ol)) (omega (arith, ints, bh, dh, e0)))
change_of a b m e by l d la lb he oe ol i cd cb (suc p) n pn low high =
    let e0 = he.positive in
    let eh = he.positive_above in
    let dl : d.lo ≤ℤ e.lo = rw cd.lo_is (bend_low a (suc m) e.lo (omega arith) la (omega (arith, ints, e0))) in
    let dh : e.hi ≤ℤ d.hi = rw cd.hi_is (bend_high b (suc m) e.hi (omega arith) lb (omega (arith, ints, eh))) in
    let bl = cb.lo_is in
    let bh = cb.hi_is in
    let span = ends (floor_over (e.lo *ℤ pos a) (suc m)) (ceil_over (e.hi *ℤ pos b) (suc m)) in
    x_log_x_mean by e l (centre m) (ratio (suc p) n) he oe ol (lit< tt, omega arith) (pn, omega arith) i
    (λ z k zl zh kl kh. (
      between_bits by (z +ℤ k) (omega (arith, ints, bl, dl, zl, kl)) (omega (arith, ints, bh, dh, zh, kh)),
      IsBetween-wider (ends (l.lo +ℤ span.lo) (l.hi +ℤ span.hi)) by (2 ^ 40)
          (sum_of (bits_of k) (product_of (bits_of z) (product_of (ratio (suc p) n) (inverse (centre m)))))
          (rw (bl, cd.lo_is) (omega (arith, ints))) (rw (bh, cd.hi_is) (omega (arith, ints)))
          (IsBetween-sum_of l span (2 ^ 40) (bits_of k) (product_of (bits_of z) (product_of (ratio (suc p) n) (inverse (centre m)))) (between_bits l k kl kh)
          (bend_at a b (suc m) (suc p) n e z (omega arith) pn low high (omega (arith, ints, e0)) zl zh)),
    ))

from_parts : (a b m : ℕ) (e at by k l d : Ends) → a ≤ m → m ≤ b → b ≤ 2 ^ 40 → HoldsLogE e → e.lo ≤ℤ e.hi → log_of_ends (point_ends m) ≡ Some l →
    k ≡ point_ends m →
    product_of_ends k l ≡ Some at → IsCapped (floor_over (e.lo *ℤ pos a) m) (ceil_over (e.hi *ℤ pos b) m) d →
    IsCapped (l.lo +ℤ d.lo) (l.hi +ℤ d.hi) by →
    (l.lo ≤ℤ l.hi) → KeepsXLogX a b m at by
from_parts a b zero e at by k l d la lb top he oe p ek q cd cb ol =
    let b0 : IsBetween (point_ends 0) (2 ^ 40) (ratio 0 (2 ^ 40)) = record { is_fraction = lit< tt; above = omega (arith, ints); below = omega (arith, ints) } in
    let n = (log_in (point_ends 0) l (ratio 0 (2 ^ 40)) (omega (arith, ints)) (omega (arith, ints)) p b0).0 in
    absurd (omega (arith, ints, n))
from_parts a b (suc m) e at by k l d la lb top he oe p ek q cd cb ol =
    let px : IsPositive (centre m) = (lit< tt, omega arith) in
    let b0 : IsBetween (point_ends (suc m)) (2 ^ 40) (centre m) = record { is_fraction = lit< tt; above = omega (arith, ints); below = omega (arith, ints) } in
    let i = (log_in (point_ends (suc m)) l (centre m) (omega (arith, ints)) (omega (arith, ints, lb, top)) p b0).1 in (
      one_term (centre m) px at (turned_in (point_ends (suc m)) l at (log_of (centre m)) (centre m) ol (rw ek at q) i b0),
      change_of a b m e by l d la lb he oe ol i cd cb,
    )

log_ordered_some : (v l : Ends) → log_of_ends v ≡ Some l → l.lo ≤ℤ l.hi
unfolding log_of_ends
log_ordered_some v l h =
    let c = capped_some (log_down (unsigned_abs v.lo) 40) (log_up (unsigned_abs v.hi) 40) l
    (not_below_one v.lo (capped (log_down (unsigned_abs v.lo) 40) (log_up (unsigned_abs v.hi) 40)) l h).1 in
    rw (c.lo_is, c.hi_is) c.ordered

pub x_log_x_kept : (a b m : ℕ) (e at by : Ends) → a ≤ m → m ≤ b → b ≤ 2 ^ 40 → HoldsLogE e → e.lo ≤ℤ e.hi → x_log_x_ends a b m e ≡ Some (at, by) →
    KeepsXLogX a b m at by
unfolding x_log_x_ends
x_log_x_kept a b m e at by la lb top he oe h =
    let log = log_of_ends (point_ends m) in
    let r = both_some (λ (v w : Ends). Some (v, w)) (both product_of_ends (Some (point_ends m)) log) (both sum_of_ends log (bend_of a b m e))
    (at, by) h in
    let x = both_some product_of_ends (Some (point_ends m)) log r.0 r.2 in
    let y = both_some sum_of_ends log (bend_of a b m e) r.1 r.3 in
    let k_is : x.0 ≡ point_ends m = cc in
    let l_is : x.1 ≡ y.0 = cc in
    let pair : (r.0, r.1) ≡ (at, by) = cc in
    made r.0 r.1 x.0 x.1 y.0 y.1 pair k_is l_is x.3 x.4 (bend_some a b m e y.1 y.3) (sum_some y.0 y.1 r.1 y.4)
  where
    made : (at' by' k l l' d : Ends) → (let p : Ends × Ends = (at', by') in p ≡ (at, by)) → k ≡ point_ends m → l ≡ l' →
        log_of_ends (point_ends m) ≡ Some l → product_of_ends k l ≡ Some at' →
        IsCapped (floor_over (e.lo *ℤ pos a) m) (ceil_over (e.hi *ℤ pos b) m) d → IsCapped (l'.lo +ℤ d.lo) (l'.hi +ℤ d.hi) by' →
        KeepsXLogX a b m at by
    made at' by' k l l' d pair ek el p q cd cb =
        let ea : at' ≡ at = ap (λ (s : Ends × Ends). s.0) pair in
        let eb : by' ≡ by = ap (λ (s : Ends × Ends). s.1) pair in
        let q' = rw ea at q in
        let cb' = rw (eb, ← el) at cb in
        from_parts a b m e at by k l d la lb top he oe p ek q' cd cb' (log_ordered_some (point_ends m) l p)
