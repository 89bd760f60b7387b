-- A scan goes on by one place.
use Rattle.std.proofs.Common.{◌≡◌, ℕ, zero, suc, Bool, true, false, List, [], ◌∷◌, length, drop, ◌+◌, ◌-◌, ◌^◌, ◌<◌, ◌≤◌, inl, inr, ℤ, pos, neg_ℤ, ◌≤ℤ◌, ◌<ℤ◌, unsigned_abs, refl, ap, sym, ◌∙◌, arith}
use Rattle.std.specs.Prelude.{All, nat_eq, int_le, if◌then◌else◌}
use Rattle.std.proofs.lemmas.List.Elements.{All-head, All-tail}
use Rattle.std.proofs.Math.ListN.{get_or}
use Rattle.std.proofs.Math.Seq.{drop-cons}
use Rattle.std.proofs.lemmas.Bool.Decides.{nat_tests}
use Rattle.std.proofs.lemmas.Int.{ints}
use Rattle.case_types.specs.Arithmetic.Bounds.{Box}
use Rattle.energy_surface.specs.Scans.{scan_packing}
use Rattle.energy_surface.specs.Surfaces.{Surface}
use Rattle.split_energies.specs.declared.scans.Scanned.{Scanned}
use Rattle.split_energies.specs.Scanned.{IsInside}
use Rattle.split_energies.specs.Scanned.{IsScannedBelow, state_at, lower_of, lowest_of}
use Rattle.split_energies.proofs.Order.{last_or_before, no_less, at_most, through, less_through}

between : (a b : ℤ) → neg_ℤ (pos (2 ^ 49)) <ℤ a → a <ℤ b → unsigned_abs b < 2 ^ 49 → unsigned_abs a < 2 ^ 49
between a b h k l = omega (arith, ints, h, k, l)

-- a state of less energy takes the place of the best one
pub scan_replaced : (s : Surface) (x : Box) (k : ℕ) (best next : Scanned) → IsScannedBelow s x k best →
    next.packing ≡ scan_packing k → next.up ≡ s.up x next.packing → neg_ℤ (pos (2 ^ 49)) <ℤ next.up → next.up <ℤ best.up → IsScannedBelow s x (k + 1) next
scan_replaced s x k best next so at up deep less = record {
  place = k;
  inside = omega arith;
  at = at;
  up = up;
  small = between next.up best.up deep less so.small;
  least = λ j h. elim (last_or_before j k h) [
    | inl l ↦ at_most next.up (s.up x (scan_packing j)) (less_through next.up best.up (s.up x (scan_packing j)) less (so.least j l))
    | inr e ↦ no_less next.up (s.up x (scan_packing j)) (up ∙ ap (λ y. s.up x y) (at ∙ ap scan_packing (sym e)))
  ];
  first = λ j h. less_through next.up best.up (s.up x (scan_packing j)) less (so.least j h);
}

-- and one of no less energy doesn't
pub scan_kept : (s : Surface) (x : Box) (k : ℕ) (best next : Scanned) → IsScannedBelow s x k best →
    next.packing ≡ scan_packing k → next.up ≡ s.up x next.packing → best.up ≤ℤ next.up → IsScannedBelow s x (k + 1) best
scan_kept s x k best next so at up more = record {
  place = so.place;
  inside = omega (arith, so.inside);
  at = so.at;
  up = so.up;
  small = so.small;
  least = λ j h. elim (last_or_before j k h) [
    | inl l ↦ so.least j l
    | inr e ↦ rw (ap scan_packing e, ← at, ← up) more
  ];
  first = so.first;
}

-- ---- states
pub packing_of : (s : Surface) (x : Box) (y : ℕ) (found : Scanned) → found ≡ state_at s x y → found.packing ≡ y
packing_of s x y found e = ap (λ (f : Scanned). f.packing) e

pub up_of : (s : Surface) (x : Box) (y : ℕ) (found : Scanned) → found ≡ state_at s x y → found.up ≡ s.up x found.packing
up_of s x y found e = ap (λ (f : Scanned). f.up) e ∙ ap (λ p. s.up x p) (sym (packing_of s x y found e))

pub half_inside : (s : Surface) (x : Box) (found : Scanned) → found ≡ state_at s x (2 ^ 39) → IsInside found.packing
half_inside s x found e = rw (packing_of s x (2 ^ 39) found e) (record { some = omega arith; less = omega arith })

-- the first place alone
pub scan_begun : (s : Surface) (x : Box) (found : Scanned) → found ≡ state_at s x (2 ^ 39) → unsigned_abs found.up < 2 ^ 49 → IsScannedBelow s x 1 found
scan_begun s x found e small = record {
  place = 0;
  inside = omega arith;
  at = packing_of s x (2 ^ 39) found e;
  up = up_of s x (2 ^ 39) found e;
  small = small;
  least = λ k h. let first : k ≡ 0 = omega (arith, h) in rw first (no_less found.up (s.up x (2 ^ 39)) (ap (λ (f : Scanned). f.up) e));
  first = λ k h. absurd (omega (arith, h));
}

-- ---- the lowest state
chosen_of : (s : Surface) (x : Box) (y : ℕ) (found : Scanned) (b : Bool) → int_le (s.up x y) found.up ≡ b → lower_of (state_at s x y) found ≡ (if b then state_at s x y else found)
chosen_of s x y found b e = ap (λ (t : Bool). if t then state_at s x y else found) e

pub lower_taken : (s : Surface) (x : Box) (y : ℕ) (next best : Scanned) → next ≡ state_at s x y → next.up ≤ℤ best.up → next ≡ lower_of (state_at s x y) best
lower_taken s x y next best e h = e ∙ sym (chosen_of s x y best true (test (rw e at h)))
  where
    test : s.up x y ≤ℤ best.up → int_le (s.up x y) best.up ≡ true
    test h = grind (arith, h)

pub lower_stays : (s : Surface) (x : Box) (y : ℕ) (next best : Scanned) → next ≡ state_at s x y → best.up <ℤ next.up → best ≡ lower_of (state_at s x y) best
lower_stays s x y next best e h = sym (chosen_of s x y best false (test (rw e at h)))
  where
    test : best.up <ℤ s.up x y → int_le (s.up x y) best.up ≡ false
    test h = grind (arith, h)

-- one packing fraction more at the front
pub lowest_more : (s : Surface) (x : Box) (ys : List ℕ) (k y : ℕ) (last best next : Scanned) → 0 < k → k ≤ length ys → y ≡ get_or ys (k - 1) 0 →
    best ≡ lowest_of s x (drop k ys) last → next ≡ lower_of (state_at s x y) best → next ≡ lowest_of s x (drop (k - 1) ys) last
unfolding lowest_of
lowest_more s x ys k y last best next some inside e h is =
    let back : suc (k - 1) ≡ k = omega (arith, some) in
    let front = drop-cons ys (k - 1) 0 (omega (arith, some, inside)) ∙ ap (λ (j : ℕ). get_or ys (k - 1) 0 ∷ drop j ys) back in
    rw front (is ∙ ap (λ (z : ℕ). lower_of (state_at s x z) best) e ∙ ap (λ (z : Scanned). lower_of (state_at s x (get_or ys (k - 1) 0)) z) h)

pub lower_small : (a b : ℤ) → neg_ℤ (pos (2 ^ 49)) <ℤ a → a ≤ℤ b → unsigned_abs b < 2 ^ 49 → unsigned_abs a < 2 ^ 49
lower_small a b h k l = omega (arith, ints, h, k, l)

pub record IsLowest (s : Surface) (x : Box) (last found : Scanned) : Type 0 where
  pub up : found.up ≡ s.up x found.packing
  pub inside : IsInside found.packing
  pub no_higher : found.up ≤ℤ last.up

lower_either : (s : Surface) (x : Box) (y : ℕ) (last found : Scanned) (b : Bool) → int_le (s.up x y) found.up ≡ b → IsInside y → IsLowest s x last found →
    IsLowest s x last (if b then state_at s x y else found)
lower_either s x y last found true e inside h = record { up = refl; inside = inside; no_higher = through (s.up x y) found.up last.up (under e) h.no_higher }
  where
    under : int_le (s.up x y) found.up ≡ true → s.up x y ≤ℤ found.up
    under e = grind (arith, e)
lower_either s x y last found false e inside h = h

pub lowest_is : (s : Surface) (x : Box) (ys : List ℕ) (last : Scanned) → All IsInside ys → last.up ≡ s.up x last.packing → IsInside last.packing →
    IsLowest s x last (lowest_of s x ys last)
unfolding lowest_of
lowest_is s x [] last all e inside = record { up = e; inside = inside; no_higher = omega (arith, ints) }
lowest_is s x (y ∷ ys) last all e inside =
    lower_either s x y last (lowest_of s x ys last) (int_le (s.up x y) (lowest_of s x ys last).up) refl (All-head IsInside y ys all) (lowest_is s x ys last (All-tail IsInside y ys all) e inside)

-- ---- the packing fraction that it finds is one of a phase
not_first : (k : ℕ) → nat_eq (suc k) 0 ≡ false
not_first k = grind (arith, nat_tests)

packed : (k : ℕ) → k < 64 → (1 ≤ scan_packing k) × (scan_packing k < 2 ^ 40)
packed zero h = (omega arith, omega arith)
packed (suc k) h = rw (not_first k) (omega arith, omega (arith, h))

pub scan_inside : (s : Surface) (x : Box) (found : Scanned) → IsScannedBelow s x 64 found → IsInside found.packing
scan_inside s x found h = rw h.at (record { some = (packed h.place h.inside).0; less = (packed h.place h.inside).1 })
