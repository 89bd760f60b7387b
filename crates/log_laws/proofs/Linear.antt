-- A linear form of fractions that add up to 1 lies between its ends, for every choice of the fractions.
use Rattle.std.proofs.Common.{◌≡◌, ℕ, zero, suc, ◌+◌, ◌*◌, ◌<◌, ◌≤◌, ◌^◌, ℤ, pos, negsuc, neg_ℤ, ◌+ℤ◌, ◌*ℤ◌, ◌≤ℤ◌, arith, refl, lit<, ap}
use Rattle.std.specs.Int.{int_max}
use Rattle.std.proofs.Math.Nat.{mul-le-mul_left}
use Rattle.std.proofs.lemmas.Int.{ints, clamps}
use Rattle.log_laws.specs.Linear.{rises, affine_high, affine_low}
use Rattle.log_laws.specs.Sums.{sum_below, int_sum_below}
use Rattle.log_laws.specs.Whole.{ceil_div}
use Rattle.log_laws.proofs.Ring.{up-mul, down-mul, mul-le_ℤ, mul-add_ℤ, add-mul_ℤ, scale_scale, scale_turned, ≤ℤ_trans, le-ceil_over, neg-mul}

-- a negative number turns the order
turned : (n x y : ℕ) → x ≤ y → (negsuc n *ℤ pos y) ≤ℤ (negsuc n *ℤ pos x)
turned n x y h =
    let e = mul-le-mul_left (suc n) h in
    omega (arith, ints, e, up-mul (negsuc n) (pos x), down-mul (negsuc n) (pos x), up-mul (negsuc n) (pos y), down-mul (negsuc n) (pos y))

-- a step times a part of m between two ends is at most m of the step at the end where that is greater
corner : (t : ℤ) (a b q m : ℕ) → a * m ≤ q → q ≤ b * m → (t *ℤ pos q) ≤ℤ (int_max (t *ℤ pos a) (t *ℤ pos b) *ℤ pos m)
corner (pos n) a b q m h k =
    let e = mul-le-mul_left n k in
    let l = mul-le_ℤ (pos n *ℤ pos b) (int_max (pos n *ℤ pos a) (pos n *ℤ pos b)) m (omega (arith, ints, clamps)) in
    omega (arith, ints, l, e)
corner (negsuc n) a b q m h k =
    let l = mul-le_ℤ (negsuc n *ℤ pos a) (int_max (negsuc n *ℤ pos a) (negsuc n *ℤ pos b)) m (omega (arith, ints, clamps)) in
    ≤ℤ_trans _ _ _ (rw (scale_scale (negsuc n) a m) (turned n (a * m) q h)) l

-- the end where a step is greater
pub greater_end-high : (t : ℤ) (a b : ℕ) → a ≤ b → pos 0 ≤ℤ t → t *ℤ pos b ≡ int_max (t *ℤ pos a) (t *ℤ pos b)
greater_end-high (pos n) a b h k = let e = mul-le-mul_left n h in omega (arith, ints, clamps, e)
greater_end-high (negsuc n) a b h k = absurd (omega (arith, ints, k))

-- steps that are the same before the last make the same rises
pub rises-same : (k : ℕ) (s t : ℕ → ℤ) (lo hi : ℕ → ℕ) → ((i : ℕ) → i < k → s i ≡ t i) → rises k s lo hi ≡ rises k t lo hi
unfolding int_sum_below
rises-same zero s t lo hi h = refl
rises-same (suc k) s t lo hi h = rw (rises-same k s t lo hi (λ i l. h i (omega (arith, l))), h k (omega arith)) refl

pub affine_high-same : (k : ℕ) (last : ℤ) (s t : ℕ → ℤ) (lo hi : ℕ → ℕ) → ((i : ℕ) → i < k → s i ≡ t i) → affine_high k last s lo hi ≡ affine_high k last t lo hi
affine_high-same k last s t lo hi h = ap (λ r. ceil_div (last *ℤ pos (2 ^ 40) +ℤ r) (pos (2 ^ 40))) (rises-same k s t lo hi h)

pub affine_low-same : (k : ℕ) (last : ℤ) (s t : ℕ → ℤ) (lo hi : ℕ → ℕ) → ((i : ℕ) → i < k → s i ≡ t i) → affine_low k last s lo hi ≡ affine_low k last t lo hi
affine_low-same k last s t lo hi h = ap neg_ℤ (affine_high-same k (neg_ℤ last) (λ i. neg_ℤ (s i)) (λ i. neg_ℤ (t i)) lo hi (λ i l. ap neg_ℤ (h i l)))

-- parts of m lie between the ends of their fractions
pub record ArePartsBetween (rest : ℕ) (lo hi parts : ℕ → ℕ) (m : ℕ) : Type 0 where
  pub all : m ≡ sum_below rest parts + parts rest
  pub above : (i : ℕ) → i < rest → lo i * m ≤ parts i * 2 ^ 40
  pub below : (i : ℕ) → i < rest → parts i * 2 ^ 40 ≤ hi i * m

free_most : (k : ℕ) (last : ℤ) (step v : ℕ → ℤ) (lo hi parts : ℕ → ℕ) (m : ℕ) → ((i : ℕ) → i < k → lo i * m ≤ parts i * 2 ^ 40)
    → ((i : ℕ) → i < k → parts i * 2 ^ 40 ≤ hi i * m) → ((i : ℕ) → i < k → v i ≤ℤ (last +ℤ step i))
    → (int_sum_below k (λ i. v i *ℤ pos (parts i)) *ℤ pos (2 ^ 40)) ≤ℤ (last *ℤ pos (sum_below k parts * 2 ^ 40) +ℤ rises k step lo hi *ℤ pos m)
unfolding int_sum_below
free_most zero last step v lo hi parts m above below less = nothing last
  where
    nothing : (z : ℤ) → (pos 0 *ℤ pos (2 ^ 40)) ≤ℤ (z *ℤ pos 0 +ℤ pos 0 *ℤ pos m)
    nothing z = omega (arith, ints, up-mul z (pos 0), down-mul z (pos 0))
free_most (suc k) last step v lo hi parts m above below less =
    let before = free_most k last step v lo hi parts m (λ i h. above i (omega (arith, h))) (λ i h. below i (omega (arith, h))) (λ i h. less i (omega (arith, h))) in
    let at = corner (step k) (lo k) (hi k) (parts k * 2 ^ 40) m (above k (omega arith)) (below k (omega arith)) in
    let here = mul-le_ℤ (v k) (last +ℤ step k) (parts k * 2 ^ 40) (less k (omega arith)) in
    joined (int_sum_below k (λ i. v i *ℤ pos (parts i))) (rises k step lo hi) (v k) (step k) (int_max (step k *ℤ pos (lo k)) (step k *ℤ pos (hi k))) (sum_below k parts) (parts k) before at here
  where
    joined : (s r x t g : ℤ) (p q : ℕ) → (s *ℤ pos (2 ^ 40)) ≤ℤ (last *ℤ pos (p * 2 ^ 40) +ℤ r *ℤ pos m) → (t *ℤ pos (q * 2 ^ 40)) ≤ℤ (g *ℤ pos m)
        → (x *ℤ pos (q * 2 ^ 40)) ≤ℤ ((last +ℤ t) *ℤ pos (q * 2 ^ 40))
        → ((s +ℤ x *ℤ pos q) *ℤ pos (2 ^ 40)) ≤ℤ (last *ℤ pos ((p + q) * 2 ^ 40) +ℤ (r +ℤ g) *ℤ pos m)
    joined s r x t g p q before at here =
        omega (
          arith,
          ints,
          before,
          at,
          here,
          add-mul_ℤ last t (pos (q * 2 ^ 40)),
          add-mul_ℤ s (x *ℤ pos q) (pos (2 ^ 40)),
          scale_scale x q (2 ^ 40),
          mul-add_ℤ last (pos (p * 2 ^ 40)) (pos (q * 2 ^ 40)),
          add-mul_ℤ r g (pos m),
        )

-- scaling by a positive number is taken off both sides
cancelled : (a b : ℤ) → (a *ℤ pos (2 ^ 40)) ≤ℤ (b *ℤ pos (2 ^ 40)) → a ≤ℤ b
cancelled a b h = omega (arith, ints, h)

-- numbers of at most the last one with their steps, weighed by the parts, are at most the form's upper end
pub affine_above : (rest : ℕ) (last : ℤ) (step v : ℕ → ℤ) (lo hi parts : ℕ → ℕ) (m : ℕ) → ArePartsBetween rest lo hi parts m
    → ((i : ℕ) → i < rest → v i ≤ℤ (last +ℤ step i)) → v rest ≤ℤ last
    → int_sum_below (suc rest) (λ i. v i *ℤ pos (parts i)) ≤ℤ (affine_high rest last step lo hi *ℤ pos m)
unfolding int_sum_below
affine_above rest last step v lo hi parts m inside less least =
    let free = free_most rest last step v lo hi parts m inside.above inside.below less in
    let own = mul-le_ℤ (v rest) last (parts rest * 2 ^ 40) least in
    let x = rises rest step lo hi in
    let c = affine_high rest last step lo hi in
    let over = mul-le_ℤ (last *ℤ pos (2 ^ 40) +ℤ x) (c *ℤ pos (2 ^ 40)) m (le-ceil_over (last *ℤ pos (2 ^ 40) +ℤ x) (2 ^ 40) (lit< tt)) in
    summed (int_sum_below rest (λ i. v i *ℤ pos (parts i))) (v rest) x c (sum_below rest parts) (parts rest) inside.all free own over
  where
    summed : (s w x c : ℤ) (p q : ℕ) → m ≡ p + q → (s *ℤ pos (2 ^ 40)) ≤ℤ (last *ℤ pos (p * 2 ^ 40) +ℤ x *ℤ pos m)
        → (w *ℤ pos (q * 2 ^ 40)) ≤ℤ (last *ℤ pos (q * 2 ^ 40)) → ((last *ℤ pos (2 ^ 40) +ℤ x) *ℤ pos m) ≤ℤ (c *ℤ pos (2 ^ 40) *ℤ pos m)
        → (s +ℤ w *ℤ pos q) ≤ℤ (c *ℤ pos m)
    summed s w x c p q is free own over =
        cancelled (s +ℤ w *ℤ pos q) (c *ℤ pos m)
        (omega (
          arith,
          ints,
          free,
          own,
          over,
          add-mul_ℤ s (w *ℤ pos q) (pos (2 ^ 40)),
          scale_scale w q (2 ^ 40),
          mul-add_ℤ last (pos (p * 2 ^ 40)) (pos (q * 2 ^ 40)),
          add-mul_ℤ (last *ℤ pos (2 ^ 40)) x (pos m),
          scale_scale last (2 ^ 40) m,
          scale_scale c (2 ^ 40) m,
          scale_turned c (2 ^ 40) m,
          whole last,
        ))
      where
        whole : (z : ℤ) → z *ℤ pos (2 ^ 40 * m) ≡ z *ℤ pos (p * 2 ^ 40 + q * 2 ^ 40)
        whole z = let e : 2 ^ 40 * m ≡ p * 2 ^ 40 + q * 2 ^ 40 = omega (arith, is) in ap (λ (n : ℕ). z *ℤ pos n) e

-- the opposite of a weighed sum is that of the opposites
opposite_sum : (k : ℕ) (v : ℕ → ℤ) (parts : ℕ → ℕ) → int_sum_below k (λ i. neg_ℤ (v i) *ℤ pos (parts i)) ≡ neg_ℤ (int_sum_below k (λ i. v i *ℤ pos (parts i)))
unfolding int_sum_below
opposite_sum zero v parts = refl
opposite_sum (suc k) v parts =
    rw (opposite_sum k v parts, neg-mul (v k) (pos (parts k))) (omega (arith, ints))

-- numbers of at least the last one with their steps, weighed by the parts, are at least the form's lower end
pub affine_below : (rest : ℕ) (last : ℤ) (step v : ℕ → ℤ) (lo hi parts : ℕ → ℕ) (m : ℕ) → ArePartsBetween rest lo hi parts m
    → ((i : ℕ) → i < rest → (last +ℤ step i) ≤ℤ v i) → last ≤ℤ v rest
    → (affine_low rest last step lo hi *ℤ pos m) ≤ℤ int_sum_below (suc rest) (λ i. v i *ℤ pos (parts i))
affine_below rest last step v lo hi parts m inside more most =
    let c = affine_high rest (neg_ℤ last) (λ i. neg_ℤ (step i)) lo hi in
    let above = affine_above rest (neg_ℤ last) (λ i. neg_ℤ (step i)) (λ i. neg_ℤ (v i)) lo hi parts m inside
    (λ i h. let e = more i h in omega (arith, ints, e)) (omega (arith, ints, most)) in
    turned_about c (int_sum_below (suc rest) (λ i. v i *ℤ pos (parts i))) (rw (opposite_sum (suc rest) v parts) at above)
  where
    turned_about : (c s : ℤ) → neg_ℤ s ≤ℤ (c *ℤ pos m) → (neg_ℤ c *ℤ pos m) ≤ℤ s
    turned_about c s h = omega (arith, ints, h, neg-mul c (pos m))
