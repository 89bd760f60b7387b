-- What ends are there, and what they are.
use Rattle.std.specs.Int.{w128}
use Rattle.std.specs.Prelude.{Option, Some, None, IsSome, IfSome, int_le, int_lt}
use Rattle.std.proofs.Common.{◌/◌, neg_ℤ, zero, suc, [], ◌∷◌, ◌-ℤ◌, to_z, of_z, List, map, length, get_or, ◌≤◌, ℕ, ◌^◌, ◌<◌, ◌≡◌, ◌↔◌, Bool, true, false, ◌&&◌, if◌then◌else◌, refl, sym, ap, ap₂, ◌∙◌, arith, ℤ, pos, negsuc, ◌+ℤ◌, ◌≤ℤ◌, unsigned_abs, nat_lt}
use Rattle.std.proofs.lemmas.Int.{ints}
use Rattle.log_laws.specs.Between.{Ends}
use Rattle.log_laws.specs.Interval.{ends, ends_of}
use Rattle.log_laws.specs.Whole.{floor_over, ceil_over}
use Rattle.log_laws.specs.declared.iv.Iv.{Iv}
use Rattle.log_laws.proofs.Exports.{and_true, back}
use Rattle.slope_form.specs.Arithmetic.{capped, ends_if, both}
use Rattle.slope_form.specs.Forms.{Form, form_from, four_of, each}

abbrev AreFit : ℤ → ℤ → Type 0
AreFit lo hi = (lo ≤ℤ hi) × (unsigned_abs lo < 2 ^ 61) × (unsigned_abs hi < 2 ^ 61)

abbrev fit : ℤ → ℤ → Bool
fit lo hi = int_le lo hi && (nat_lt (unsigned_abs lo) (2 ^ 61) && nat_lt (unsigned_abs hi) (2 ^ 61))

fit_true : (lo hi : ℤ) → AreFit lo hi → fit lo hi ≡ true
fit_true lo hi h = let a = h.0 in let b = h.1 in let c = h.2 in grind (arith, ints)

fit_is : (lo hi : ℤ) → fit lo hi ≡ true → AreFit lo hi
fit_is lo hi e =
    let a = and_true (int_le lo hi) (nat_lt (unsigned_abs lo) (2 ^ 61) && nat_lt (unsigned_abs hi) (2 ^ 61)) e in
    let b = and_true (nat_lt (unsigned_abs lo) (2 ^ 61)) (nat_lt (unsigned_abs hi) (2 ^ 61)) a.1 in
    let x = a.0 in let y = b.0 in let z = b.1 in
    (grind (arith, ints), grind arith, grind arith)

ends_same : (a b c d : ℤ) → a ≡ c → b ≡ d → ends a b ≡ ends c d
ends_same a b c d p q = ap₂ (λ (x y : ℤ). ends x y) p q

pub capped_is : (lo hi : ℤ) (r : Option Iv) → (IsSome r ↔ AreFit lo hi) → IfSome r (λ v. (v.lo ≡ lo) × (v.hi ≡ hi)) → ends_if r ≡ capped lo hi
unfolding capped
capped_is lo hi (Some v) s e = rw (fit_true lo hi (s.0 refl)) (ap Some (ends_same v.lo v.hi lo hi e.0 e.1))
capped_is lo hi None s e = by_test (fit lo hi) refl
  where
    by_test : (b : Bool) → fit lo hi ≡ b → ends_if None ≡ (if b then Some (ends lo hi) else None)
    by_test true t = let h : IsSome {T = Iv} None = s.1 (fit_is lo hi t) in cc
    by_test false t = refl

-- what is known of a result
pub record IsCapped (lo hi : ℤ) (e : Ends) : Type 0 where
  pub lo_is : e.lo ≡ lo
  pub hi_is : e.hi ≡ hi
  pub ordered : lo ≤ℤ hi
  pub lo_small : unsigned_abs lo < 2 ^ 61
  pub hi_small : unsigned_abs hi < 2 ^ 61

pub capped_some : (lo hi : ℤ) (e : Ends) → capped lo hi ≡ Some e → IsCapped lo hi e
unfolding capped
capped_some lo hi e h = by_test (fit lo hi) refl h
  where
    by_test : (b : Bool) → fit lo hi ≡ b → (if b then Some (ends lo hi) else None) ≡ Some e → IsCapped lo hi e
    by_test true t h =
        let f = fit_is lo hi t in
        let k : ends lo hi ≡ e = cc in
        record { lo_is = sym (ap (λ (v : Ends). v.lo) k); hi_is = sym (ap (λ (v : Ends). v.hi) k); ordered = f.0; lo_small = f.1; hi_small = f.2 }
    by_test false t h = absurd (cc)

-- an entry of an array of four
entry_at : (xs : List Iv) (j : ℕ) (r : Iv) (d : Ends) → j < length xs → r ≡ get_or xs j r → ends_of r ≡ get_or (map ends_of xs) j d
entry_at [] j r d h e = absurd (omega (arith, h))
entry_at (x ∷ xs) zero r d h e = ap ends_of e
entry_at (x ∷ xs) (suc j) r d h e = entry_at xs j r d (omega (arith, h)) e

pub entry_is : (xs : List Iv) (j : ℕ) (r : Iv) → 4 ≤ length xs → j < 4 → r ≡ get_or xs j r →
    ends_of r ≡ get_or (map ends_of xs) j (ends (pos 0) (pos 0))
entry_is xs j r h l e = entry_at xs j r (ends (pos 0) (pos 0)) (omega (arith, h, l)) e

-- what `cap` gave, at ends that are spelled as numbers of 128 bits
pub capped_from : (x y lo hi : ℤ) (r : Option Iv) → x ≡ lo → y ≡ hi → (IsSome r ↔ AreFit x y) → IfSome r (λ v. (v.lo ≡ x) × (v.hi ≡ y)) →
    ends_if r ≡ capped lo hi
capped_from x y lo hi r p q s e = rw (← p, ← q) (capped_is x y r s e)

-- the ends of a sum
pub summed : (a b : ℤ) → unsigned_abs a < 2 ^ 62 → unsigned_abs b < 2 ^ 62 →
    to_z w128 (of_z w128 (to_z w128 (of_z w128 a) +ℤ to_z w128 (of_z w128 b))) ≡ a +ℤ b
summed a b h k = rw (back a (omega (arith, h)), back b (omega (arith, k))) (back (a +ℤ b) (omega (arith, ints, h, k)))

pub subtracted : (a b : ℤ) → unsigned_abs a < 2 ^ 62 → unsigned_abs b < 2 ^ 62 →
    to_z w128 (of_z w128 (to_z w128 (of_z w128 a) -ℤ to_z w128 (of_z w128 b))) ≡ a -ℤ b
subtracted a b h k = rw (back a (omega (arith, h)), back b (omega (arith, k))) (back (a -ℤ b) (omega (arith, ints, h, k)))

-- a test of a lower end
pub below_one : (z : ℤ) (b : Bool) → unsigned_abs z < 2 ^ 62 → int_lt (to_z w128 (of_z w128 z)) (pos 1) ≡ b → int_lt z (pos 1) ≡ b
below_one z b h e = rw (back z (omega (arith, h))) at e

-- ---- results that are there
pub not_below_one : {A : Type 0} (z : ℤ) (r : Option A) (x : A) → (if int_lt z (pos 1) then None else r) ≡ Some x → (pos 1 ≤ℤ z) × (r ≡ Some x)
not_below_one {A} z r x h = by_test (int_lt z (pos 1)) refl h
  where
    by_test : (b : Bool) → int_lt z (pos 1) ≡ b → (if b then None else r) ≡ Some x → (pos 1 ≤ℤ z) × (r ≡ Some x)
    by_test true t h = absurd (cc)
    by_test false t h = (grind (arith, ints), h)

pub both_some : {A B C : Type 0} (op : A → B → Option C) (a : Option A) (b : Option B) (c : C) → both op a b ≡ Some c →
    (x : A) × (y : B) × (a ≡ Some x) × (b ≡ Some y) × (op x y ≡ Some c)
both_some op None b c h = absurd (cc)
both_some op (Some x) None c h = absurd (cc)
both_some op (Some x) (Some y) c h = (x, y, refl, refl, h)

pub form_from_some : (at over : Option Ends) (by : Option (List Ends)) (h : Form) → form_from at over by ≡ Some h →
    (at ≡ Some h.at) × (over ≡ Some h.over) × (by ≡ Some h.by)
form_from_some None over by h e = absurd (cc)
form_from_some (Some a) None by h e = absurd (cc)
form_from_some (Some a) (Some o) None h e = absurd (cc)
form_from_some (Some a) (Some o) (Some b) h e =
    let k : (let f : Form = record { at = a; over = o; by = b } in f) ≡ h = cc in
    (ap (λ (f : Form). Some f.at) k, ap (λ (f : Form). Some f.over) k, ap (λ (f : Form). Some f.by) k)

pub each_some : (h : ℕ → Option Ends) (bs : List Ends) → each h ≡ Some bs → (j : ℕ) → j < 4 → h j ≡ Some (get_or bs j (ends (pos 0) (pos 0)))
each_some h bs e j l = at_four (h 0) (h 1) (h 2) (h 3) refl refl refl refl e j l
  where
    at_four : (a b c d : Option Ends) → h 0 ≡ a → h 1 ≡ b → h 2 ≡ c → h 3 ≡ d → four_of a b c d ≡ Some bs → (j : ℕ) → j < 4 →
        h j ≡ Some (get_or bs j (ends (pos 0) (pos 0)))
    at_four None b c d p q r s e j l = absurd (cc)
    at_four (Some w) None c d p q r s e j l = absurd (cc)
    at_four (Some w) (Some x) None d p q r s e j l = absurd (cc)
    at_four (Some w) (Some x) (Some y) None p q r s e j l = absurd (cc)
    at_four (Some w) (Some x) (Some y) (Some z) p q r s e j l = let k : w ∷ x ∷ y ∷ z ∷ [] ≡ bs = cc in rw (← k) (found j l)
      where
        found : (j : ℕ) → j < 4 → h j ≡ Some (get_or (w ∷ x ∷ y ∷ z ∷ []) j (ends (pos 0) (pos 0)))
        found zero l = p
        found (suc zero) l = q
        found (suc (suc zero)) l = r
        found (suc (suc (suc zero))) l = s
        found (suc (suc (suc (suc j)))) l = absurd (omega (arith, l))

-- what rounded quotients gave
pub floored : (t x f : ℤ) (m : ℕ) → unsigned_abs t < 2 ^ 103 → unsigned_abs f < 2 ^ 104 → t ≡ x → f ≡ floor_over (to_z w128 (of_z w128 t)) m →
    to_z w128 (of_z w128 f) ≡ floor_over x m
floored t x f m h k e q = back f (omega (arith, k)) ∙ rw (back t (omega (arith, h)), e) at q

zero_less : (z : ℤ) → pos 0 -ℤ z ≡ neg_ℤ z
zero_less z = omega (arith, ints)

pub ceiled : (t x f : ℤ) (m : ℕ) → unsigned_abs t < 2 ^ 103 → unsigned_abs f < 2 ^ 104 → t ≡ x →
    f ≡ floor_over (to_z w128 (of_z w128 (pos 0 -ℤ to_z w128 (of_z w128 t)))) m →
    to_z w128 (of_z w128 (pos 0 -ℤ to_z w128 (of_z w128 f))) ≡ ceil_over x m
ceiled t x f m h k e q =
    let a = rw (back t (omega (arith, h)), zero_less t, back (neg_ℤ t) (omega (arith, ints, h)), e) at q in
    rw (back f (omega (arith, k)), zero_less f, back (neg_ℤ f) (omega (arith, ints, k))) (ap neg_ℤ a)

-- a rounded quotient of a product of two numbers of size 2^62
pub floor_small : (z : ℤ) → unsigned_abs z < 2 ^ 124 → unsigned_abs (floor_over z (2 ^ 40)) ≤ 2 ^ 84
floor_small (pos a) h = small a h
  where
    small : (a : ℕ) → a < 2 ^ 124 → a / 2 ^ 40 ≤ 2 ^ 84
    small a h = omega arith
floor_small (negsuc a) h = small a h
  where
    small : (a : ℕ) → suc a < 2 ^ 124 → suc (a / 2 ^ 40) ≤ 2 ^ 84
    small a h = omega arith
