-- A stack of a walk has no more cells than halvings.
use Rattle.std.proofs.Common.{◌≡◌, ℕ, zero, suc, ◌+◌, ◌-◌, ◌/◌, ◌^◌, ◌<◌, ◌≤◌, List, [], ◌∷◌, length, refl, arith}
use Rattle.std.proofs.Math.Nat.{pow-suc}
use Rattle.log_laws.proofs.Exports.{pow_pos_of}
use Rattle.case_types.specs.Arithmetic.Bounds.{one}
use Rattle.fibre_bound.specs.Walks.{Span, span, middle}

-- a cell with k cells under it has at most 40 - k halvings left
pub record IsShort (c : Span) (k : ℕ) : Type 0 where
  pub halvings : ℕ
  pub long : c.from + 2 ^ halvings ≡ c.to
  pub few : halvings + k ≤ 40
  pub inside : c.to ≤ one

unfoldable pub IsDeep : List Span → Type 0
IsDeep [] = Unit {0}
IsDeep (c ∷ under) = IsShort c (length under) × IsDeep under

pub deep_whole : IsDeep (span 0 one ∷ [])
unfolding IsDeep
deep_whole = (record { halvings = 40; long = refl; few = omega arith; inside = omega arith }, tt)

pub deep_rest : (c : Span) (under : List Span) → IsDeep (c ∷ under) → IsDeep under
unfolding IsDeep
deep_rest c under h = h.1

pub deep_room : (c : Span) (under : List Span) → IsDeep (c ∷ under) → length under ≤ 40
unfolding IsDeep
deep_room c under h = let few = h.0.few in omega (arith, few)

pub deep_inside : (c : Span) (under : List Span) → IsDeep (c ∷ under) → c.to ≤ one
unfolding IsDeep
deep_inside c under h = h.0.inside

pub deep_ordered : (c : Span) (under : List Span) → IsDeep (c ∷ under) → c.from < c.to
unfolding IsDeep
deep_ordered c under h = let long = h.0.long in let some = pow_pos_of 2 h.0.halvings (omega arith) in omega (arith, long, some)

-- the middle of a cell of two units at least is between its ends
pub middle_below : (c : Span) → c.from < c.to → middle c < c.to
middle_below c h = omega (arith, h)

half_of : (from to halvings k : ℕ) → from + 2 ^ halvings ≡ to → 2 ≤ to - from → halvings + k ≤ 40 →
    (h : ℕ) × (from + 2 ^ h ≡ (from + to) / 2) × ((from + to) / 2 + 2 ^ h ≡ to) × (h + (k + 1) ≤ 40)
half_of from to zero k long wide few = absurd (omega (arith, long, wide))
half_of from to (suc h) k long wide few = let p = pow-suc 2 h in (h, omega (arith, long, p), omega (arith, long, p), omega (arith, few))

one_more : (c : Span) (under : List Span) → length under + 1 ≡ length (c ∷ under)
one_more c under = omega arith

-- after it is halved
pub deep_halves : (c : Span) (under : List Span) → 2 ≤ c.to - c.from → IsDeep (c ∷ under) → IsDeep (span c.from (middle c) ∷ span (middle c) c.to ∷ under)
unfolding IsDeep
deep_halves c under wide h =
    let long = h.0.long in
    let half = half_of c.from c.to h.0.halvings (length under) long wide h.0.few in
    let inside = h.0.inside in (
      record { halvings = half.0; long = half.1; few = rw (← one_more (span (middle c) c.to) under) half.3; inside = omega (arith, half.2, inside) },
      (record { halvings = half.0; long = half.2; few = omega (arith, half.3); inside = inside }, h.1),
    )
