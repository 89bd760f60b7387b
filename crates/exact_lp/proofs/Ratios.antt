-- The order of ratios.
use Rattle.std.proofs.Common.{◌≡◌, ℕ, ◌+◌, ◌<◌, ◌≤◌, ◌⊎◌, inl, inr, ℤ, pos, negsuc, ◌*ℤ◌, ◌≤ℤ◌, ◌<ℤ◌, refl, ap, sym, ◌∙◌, arith}
use Rattle.std.proofs.Math.IntN.{*ℤ_comm}
use Rattle.std.proofs.lemmas.Int.{ints}
use Rattle.std.proofs.lemmas.Bool.{cases_lt}
use Rattle.log_laws.proofs.Exports.{mul_assoc_ℤ, scale_less, unscale_less, unscale_same}
use Rattle.exact_lp.specs.Frames.{IsNoLater, IsBest, IsBestSoFar}

turn : (z x y : ℤ) → (z *ℤ x) *ℤ y ≡ (z *ℤ y) *ℤ x
turn z x y = mul_assoc_ℤ z x y ∙ ap (λ t. z *ℤ t) (*ℤ_comm x y) ∙ sym (mul_assoc_ℤ z y x)

positive : (x : ℤ) → pos 0 <ℤ x → (n : ℕ) × (0 < n) × (x ≡ pos n)
positive (pos n) h = (n, omega (arith, ints, h), refl)
positive (negsuc n) h = absurd (omega (arith, ints, h))

less_through : (a b c : ℤ) → a <ℤ b → b <ℤ c → a <ℤ c
less_through a b c h k = omega (arith, ints)

-- a / p before b / q before c / r
through : (za zb zc : ℤ) (p q r : ℕ) (la lb lc : ℕ) → 0 < p → 0 < q → 0 < r →
    ((za *ℤ pos q) <ℤ (zb *ℤ pos p)) ⊎ ((za *ℤ pos q) ≡ (zb *ℤ pos p)) × (la ≤ lb) →
    ((zb *ℤ pos r) <ℤ (zc *ℤ pos q)) ⊎ ((zb *ℤ pos r) ≡ (zc *ℤ pos q)) × (lb ≤ lc) →
    ((za *ℤ pos r) <ℤ (zc *ℤ pos p)) ⊎ ((za *ℤ pos r) ≡ (zc *ℤ pos p)) × (la ≤ lc)
through za zb zc p q r la lb lc hp hq hr (inl h) (inl k) =
    inl (unscale_less (za *ℤ pos r) (zc *ℤ pos p) q
    (rw (turn za (pos r) (pos q), turn zc (pos p) (pos q)) (less_through ((za *ℤ pos q) *ℤ pos r) ((zb *ℤ pos r) *ℤ pos p) ((zc *ℤ pos q) *ℤ pos p)
    (rw (turn zb (pos r) (pos p)) (scale_less (za *ℤ pos q) (zb *ℤ pos p) r hr h)) (scale_less (zb *ℤ pos r) (zc *ℤ pos q) p hp k))))
through za zb zc p q r la lb lc hp hq hr (inl h) (inr k) =
    inl (unscale_less (za *ℤ pos r) (zc *ℤ pos p) q
    (rw (turn za (pos r) (pos q), turn zc (pos p) (pos q), ← k.0, turn zb (pos r) (pos p)) (scale_less (za *ℤ pos q) (zb *ℤ pos p) r hr h)))
through za zb zc p q r la lb lc hp hq hr (inr h) (inl k) =
    inl (unscale_less (za *ℤ pos r) (zc *ℤ pos p) q
    (rw (turn za (pos r) (pos q), turn zc (pos p) (pos q), h.0, turn zb (pos p) (pos r)) (scale_less (zb *ℤ pos r) (zc *ℤ pos q) p hp k)))
through za zb zc p q r la lb lc hp hq hr (inr h) (inr k) =
    inr (
      unscale_same (za *ℤ pos r) (zc *ℤ pos p) q hq
          (rw (turn za (pos r) (pos q), turn zc (pos p) (pos q), h.0, turn zb (pos p) (pos r), k.0) refl),
      omega (arith, h.1, k.1),
    )

pub no_later-through : (z x : ℕ → ℤ) (at : ℕ → ℕ) (a b c : ℕ) → pos 0 <ℤ x a → pos 0 <ℤ x b → pos 0 <ℤ x c → IsNoLater z x at a b → IsNoLater z x at b c → IsNoLater z x at a c
no_later-through z x at a b c ha hb hc h k =
    let p = positive (x a) ha in
    let q = positive (x b) hb in
    let r = positive (x c) hc in
    let first = rw (q.2, p.2) at h in
    let second = rw (r.2, q.2) at k in
    rw (r.2, p.2) (through (z a) (z b) (z c) p.0 q.0 r.0 (at a) (at b) (at c) p.1 q.1 r.1 first second)

no_later-self : (z x : ℕ → ℤ) (at : ℕ → ℕ) (a : ℕ) → IsNoLater z x at a a
no_later-self z x at a = inr (refl, omega arith)

-- ---- the best of the places, one more at a time
none_more : (x : ℕ → ℤ) (j : ℕ) → ((i : ℕ) → i < j → x i ≤ℤ pos 0) → x j ≤ℤ pos 0 → (i : ℕ) → i < j + 1 → x i ≤ℤ pos 0
none_more x j none here i h =
    elim (cases_lt i j) [
      | inl less ↦ none i less
      | inr more ↦ let e : i ≡ j = omega (arith, h, more) in rw e here
    ]

-- the next place takes no part
pub best_without : (z x : ℕ → ℤ) (at : ℕ → ℕ) (limit j best : ℕ) → IsBestSoFar z x at limit j best → x j ≤ℤ pos 0 → IsBestSoFar z x at limit (j + 1) best
best_without z x at limit j best (inl none) here = inl (none.0, none_more x j none.1 here)
best_without z x at limit j best (inr some) here =
    inr (
      some.0,
      omega (arith, some.1),
      λ i h takes.
          elim (cases_lt i j) [
            | inl less ↦ some.2 i less takes
            | inr more ↦ let e : i ≡ j = omega (arith, h, more) in absurd (omega (arith, ints, rw e at takes, here))
          ],
    )

-- it is the first that does
pub best_first : (z x : ℕ → ℤ) (at : ℕ → ℕ) (j : ℕ) → ((i : ℕ) → i < j → x i ≤ℤ pos 0) → pos 0 <ℤ x j → IsBest z x at (j + 1) j
best_first z x at j none here = (
  here,
  omega arith,
  λ i h takes.
      elim (cases_lt i j) [
        | inl less ↦ absurd (omega (arith, ints, none i less, takes))
        | inr more ↦ let e : i ≡ j = omega (arith, h, more) in rw e (no_later-self z x at j)
      ],
)

-- it is better than the best, or isn't
pub best_replaced : (z x : ℕ → ℤ) (at : ℕ → ℕ) (j best : ℕ) → IsBest z x at j best → pos 0 <ℤ x j → IsNoLater z x at j best → IsBest z x at (j + 1) j
best_replaced z x at j best some here better = (
  here,
  omega arith,
  λ i h takes.
      elim (cases_lt i j) [
        | inl less ↦ no_later-through z x at j best i here some.0 takes better (some.2 i less takes)
        | inr more ↦ let e : i ≡ j = omega (arith, h, more) in rw e (no_later-self z x at j)
      ],
)

pub best_kept : (z x : ℕ → ℤ) (at : ℕ → ℕ) (j best : ℕ) → IsBest z x at j best → pos 0 <ℤ x j → IsNoLater z x at best j → IsBest z x at (j + 1) best
best_kept z x at j best some here better = (
  some.0,
  omega (arith, some.1),
  λ i h takes.
      elim (cases_lt i j) [
        | inl less ↦ some.2 i less takes
        | inr more ↦ let e : i ≡ j = omega (arith, h, more) in rw e better
      ],
)

pub best_seen : (z x : ℕ → ℤ) (at : ℕ → ℕ) (limit j best : ℕ) → IsBestSoFar z x at limit j best → (best ≡ limit → ⊥) → IsBest z x at j best
best_seen z x at limit j best (inl none) apart = absurd (apart none.0)
best_seen z x at limit j best (inr some) apart = some

pub none_seen : (z x : ℕ → ℤ) (at : ℕ → ℕ) (limit j best : ℕ) → IsBestSoFar z x at limit j best → best ≡ limit → j ≤ limit → (i : ℕ) → i < j → x i ≤ℤ pos 0
none_seen z x at limit j best (inl none) e h = none.1
none_seen z x at limit j best (inr some) e h = absurd (omega (arith, some.1, e, h))
