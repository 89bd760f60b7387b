-- The basis after a pivot is a basis.
use Rattle.std.proofs.Common.{◌≡◌, ◌≢◌, ℕ, zero, suc, ◌<◌, ◌≤◌, ◌⊎◌, inl, inr, Bool, true, false, List, length, ℤ, pos, negsuc, ◌*ℤ◌, ◌≤ℤ◌, ◌<ℤ◌, unsigned_abs, slice_index, slice_set, refl, ap, arith}
use Rattle.std.specs.Prelude.{nat_eq}
use Rattle.std.proofs.Math.Path.{fun_ext}
use Rattle.std.proofs.lemmas.List.{get_or-set_same, get_or-set_other}
use Rattle.std.proofs.lemmas.Int.{ints}
use Rattle.case_types.specs.declared.cases.Case.{Case}
use Rattle.case_types.specs.declared.rounds.Column.{Column}
use Rattle.energy_surface.specs.Program.Determinants.{determinant, with_row}
use Rattle.energy_surface.specs.Program.Bases.{column_at, composition, system, feed_of, IsBasis}
use Rattle.energy_surface.specs.Program.Pivots.{IsLeaving}
use Rattle.energy_surface.specs.Program.Solutions.{signed_by, size, amount}
use Rattle.log_laws.proofs.Exports.{no_less}
use Rattle.std.proofs.lemmas.Bool.{eqb-true, eqb-false}
use Rattle.exact_lp.proofs.PivotedAmounts.{amount_left, amount_kept}

-- ---- the system after the pivot
entered : (cols : List Column) (at : List ℕ) (k enter : ℕ) → k < length at → (r c : ℕ) (b : Bool) → nat_eq r k ≡ b →
    system cols (slice_set at k enter) r c ≡ with_row k (composition (column_at cols enter)) (system cols at) r c
entered cols at k enter h r c true e = rw (e, eqb-true r k e, get_or-set_same at k enter 0 h) refl
entered cols at k enter h r c false e = rw (e, get_or-set_other at k r enter 0 (eqb-false r k e)) refl

pub system_after : (cols : List Column) (at : List ℕ) (k enter : ℕ) → k < length at →
    system cols (slice_set at k enter) ≡ with_row k (composition (column_at cols enter)) (system cols at)
system_after cols at k enter h = fun_ext (λ r. fun_ext (λ c. entered cols at k enter h r c (nat_eq r k) refl))

-- ---- the parts of a basis
above_nothing : (d : ℤ) → d ≢ pos 0 → 0 < unsigned_abs d
above_nothing (pos zero) h = absurd (h refl)
above_nothing (pos (suc n)) h = omega arith
above_nothing (negsuc n) h = omega arith

pub spans_above : (c : Case) (cols : List Column) (at : List ℕ) → IsBasis c cols at → 0 < size c.n (system cols at)
spans_above c cols at b = above_nothing (determinant c.n (system cols at)) b.spans

signed_nothing : (d e : ℤ) → pos 0 <ℤ signed_by d e → e ≢ pos 0
signed_nothing (pos d) e h = λ n. absurd (omega (arith, ints, h, n))
signed_nothing (negsuc d) e h = λ n. absurd (omega (arith, ints, h, n))

less_or_same : (a b : ℤ) (P : Type 0) → (a <ℤ b) ⊎ (a ≡ b) × P → a ≤ℤ b
less_or_same a b P (inl h) = omega (arith, ints, h)
less_or_same a b P (inr h) = omega (arith, ints, h.0)

-- ---- a pivot by the rule leaves a basis
pub pivot_feeds : (c : Case) (cols : List Column) (at : List ℕ) (enter k : ℕ) → IsBasis c cols at → IsLeaving c cols at enter k →
    (j : ℕ) → j < c.n → (b : Bool) → nat_eq j k ≡ b → pos 0 ≤ℤ amount c.n (with_row k (composition (column_at cols enter)) (system cols at)) (feed_of c) j
pivot_feeds c cols at enter k basis leaves j h true e =
    let m = system cols at in
    let x = composition (column_at cols enter) in
    rw (eqb-true j k e) (rw (replaced_twice c.n k (feed_of c) x m, amount_left c.n m x (feed_of c) k leaves.takes_part) (basis.feeds k leaves.place))
  where
    replaced_twice : (n k : ℕ) (z x : ℕ → ℤ) (m : ℕ → ℕ → ℤ) → determinant n (with_row k z (with_row k x m)) ≡ determinant n (with_row k z m)
    replaced_twice n k z x m = ap (determinant n) (fun_ext (λ r. fun_ext (λ c. twice r c (nat_eq r k) refl)))
      where
        twice : (r c : ℕ) (b : Bool) → nat_eq r k ≡ b → with_row k z (with_row k x m) r c ≡ with_row k z m r c
        twice r c true e = rw e refl
        twice r c false e = rw e refl
pivot_feeds c cols at enter k basis leaves j h false e =
    let m = system cols at in
    let x = composition (column_at cols enter) in
    let z = feed_of c in
    amount_kept c.n c.some c.few m x z j k h leaves.place (eqb-false j k e) leaves.takes_part (spans_above c cols at basis) (basis.feeds j h) (basis.feeds k leaves.place)
    (elim (no_less (amount c.n m x j) (pos 0)) [
      | inl down ↦ inl down
      | inr up ↦ inr (less_or_same (amount c.n m z k *ℤ amount c.n m x j) (amount c.n m z j *ℤ amount c.n m x k) (slice_index at k ≤ slice_index at j) (leaves.least j h up))
    ])

pub pivot_keeps : (c : Case) (cols : List Column) (at : List ℕ) (enter k : ℕ) → IsBasis c cols at → enter < length cols → k < length at → IsLeaving c cols at enter k →
    IsBasis c cols (slice_set at k enter)
pivot_keeps c cols at enter k basis inside long leaves = record {
  inside = λ j h. place_inside j h (nat_eq j k) refl;
  spans = rw (system_after cols at k enter long) (signed_nothing (determinant c.n (system cols at)) (determinant c.n (with_row k (composition (column_at cols enter)) (system cols at))) leaves.takes_part);
  feeds = λ j h. rw (system_after cols at k enter long) (pivot_feeds c cols at enter k basis leaves j h (nat_eq j k) refl);
}
  where
    place_inside : (j : ℕ) → j < c.n → (b : Bool) → nat_eq j k ≡ b → slice_index (slice_set at k enter) j < length cols
    place_inside j h true e = rw (eqb-true j k e, get_or-set_same at k enter 0 long) inside
    place_inside j h false e = rw (get_or-set_other at k j enter 0 (eqb-false j k e)) (basis.inside j h)
