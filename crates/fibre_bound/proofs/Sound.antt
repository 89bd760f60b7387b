-- What holds wherever a walk stands: its state is one of the feed, and the lows of what it cleared are near.
use Rattle.std.proofs.Common.{◌≡◌, ℕ, ◌<◌, ◌≤◌, ◌↔◌, List, [], ◌∷◌, Option, Some, None, ℤ, pos, ◌-ℤ◌, ◌≤ℤ◌, refl, subst, arith}
use Rattle.std.proofs.lemmas.Int.{ints, clamps}
use Rattle.std.specs.Int.{int_min}
use Rattle.case_types.specs.Arithmetic.Bounds.{one}
use Rattle.fibre_bound.specs.declared.fibres.FibreEnd.{FibreEnd}
use Rattle.fibre_bound.specs.declared.fibres.FibreEnd.TheVariants.{Clear, Spent, Grain}
use Rattle.fibre_bound.specs.Laws.{GrainIsInside}
use Rattle.fibre_bound.specs.Walks.{Question, Span, middle, low_of, Trail, IsOpen, lesser, Reaches, least_over, EndsSo, LowIs}
use Rattle.fibre_bound.specs.Walks.Reaches.{Begins, Clears, Lowers, Halves}
use Rattle.fibre_bound.proofs.Deep.{IsDeep, deep_whole, deep_rest, deep_inside, deep_ordered, middle_below, deep_halves}

-- no least low, if there is one, is below this
abbrev pub IsNear : ℤ → Option ℤ → Type 0
IsNear bound least = (z : ℤ) → least ≡ Some z → bound ≤ℤ z

near_more : (bound low : ℤ) (least : Option ℤ) → IsNear bound least → bound ≤ℤ low → IsNear bound (Some (lesser least low))
near_more bound low None near h z e = let same : low ≡ z = cc in rw (← same) h
near_more bound low (Some y) near h z e = let same : int_min y low ≡ z = cc in rw (← same) (both (near y refl) h)
  where
    both : bound ≤ℤ y → bound ≤ℤ low → bound ≤ℤ int_min y low
    both h k = omega (arith, ints, clamps, h, k)

-- the first state is one of the feed
pub record IsFirst (q : Question) : Type 0 where
  pub some : 1 ≤ q.first.packing
  pub inside : q.first.packing < one
  pub up : q.first.up ≡ q.up q.first.packing

pub record IsSound (q : Question) (t : Trail) : Type 0 where
  pub deep : IsDeep t.cells
  pub some : 1 ≤ t.packing
  pub inside : t.packing < one
  pub up : t.up ≡ q.up t.packing
  pub near : IsNear (t.up -ℤ q.slack) t.least

pub sound : (q : Question) (units : ℕ) → IsFirst q → (t : Trail) → Reaches q units t → IsSound q t
sound q units first _ Begins = record { deep = deep_whole; some = first.some; inside = first.inside; up = first.up; near = λ z e. absurd (let h : None ≡ Some z = e in cc) }
sound q units first _ (Clears t c rest reaches e clear) =
    let so = sound q units first t reaches in
    record {
      deep = deep_rest c rest (subst IsDeep e so.deep);
      some = so.some;
      inside = so.inside;
      up = so.up;
      near = near_more (t.up -ℤ q.slack) (low_of q c) t.least so.near clear;
    }
sound q units first _ (Lowers t c rest reaches e opened lower room) =
    let so = sound q units first t reaches in
    let deep = subst IsDeep e so.deep in
    let below = middle_below c (deep_ordered c rest deep) in
    let inside = deep_inside c rest deep in
    let bound : (q.up (middle c) -ℤ q.slack) ≤ℤ (t.up -ℤ q.slack) = let less = lower.1 in omega (arith, ints, less) in
    record {
      deep = so.deep;
      some = lower.0;
      inside = omega (arith, below, inside);
      up = refl;
      near = λ z h. let near = so.near z h in omega (arith, ints, bound, near);
    }
sound q units first _ (Halves t c rest reaches e opened none wide room) =
    let so = sound q units first t reaches in
    record { deep = deep_halves c rest wide (subst IsDeep e so.deep); some = so.some; inside = so.inside; up = so.up; near = so.near }

-- ---- the least low of the cells that are left
lesser_first : (y z : ℤ) → int_min y z ≤ℤ y
lesser_first y z = omega (arith, ints, clamps)

lesser_second : (y z : ℤ) → int_min y z ≤ℤ z
lesser_second y z = omega (arith, ints, clamps)

pub lesser_own : (least : Option ℤ) (z : ℤ) → lesser least z ≤ℤ z
lesser_own None z = omega (arith, ints)
lesser_own (Some y) z = lesser_second y z

pub lesser_least : (least : Option ℤ) (z y : ℤ) → least ≡ Some y → lesser least z ≤ℤ y
lesser_least None z y e = absurd (let h : None ≡ Some y = e in cc)
lesser_least (Some x) z y e = let same : x ≡ y = cc in rw (← same) (lesser_first x z)

pub over_before : (q : Question) (y low : ℤ) (cells : List Span) → least_over q (Some y) cells ≡ Some low → low ≤ℤ y
unfolding least_over
over_before q y low [] e = let same : y ≡ low = cc in rw same (omega (arith, ints))
over_before q y low (c ∷ cs) e =
    let rest = over_before q (int_min y (low_of q c)) low cs e in
    let first = lesser_first y (low_of q c) in omega (arith, ints, rest, first)

pub over_first : (q : Question) (least : Option ℤ) (low : ℤ) (c : Span) (cells : List Span) → least_over q least (c ∷ cells) ≡ Some low → low ≤ℤ low_of q c
unfolding least_over
over_first q least low c cells e =
    let rest = over_before q (lesser least (low_of q c)) low cells e in
    let own = lesser_own least (low_of q c) in omega (arith, ints, rest, own)

-- ---- its end: clear exactly where the bounds are near
near_end : (q : Question) (least : Option ℤ) (up low : ℤ) → pos 0 ≤ℤ q.slack → IsNear (up -ℤ q.slack) least → low ≡ lesser least up → (up -ℤ low) ≤ℤ q.slack
near_end q None up low some near e = rw e (omega (arith, ints, some))
near_end q (Some y) up low some near e = rw e (both (near y refl))
  where
    both : (up -ℤ q.slack) ≤ℤ y → (up -ℤ int_min y up) ≤ℤ q.slack
    both h = omega (arith, ints, clamps, h, some)

far_end : (q : Question) (t : Trail) (c : Span) (rest : List Span) (low : ℤ) → t.cells ≡ c ∷ rest → IsOpen q t c → least_over q t.least t.cells ≡ Some low → (t.up -ℤ low) ≤ℤ q.slack → ⊥
far_end q t c rest low e opened least near =
    let first = over_first q t.least low c rest (subst (λ (l : List Span). least_over q t.least l ≡ Some low) e least) in
    absurd (omega (arith, ints, first, opened, near))

pub clear_exactly : (q : Question) (units : ℕ) (t : Trail) (end : FibreEnd) (low : ℤ) → pos 0 ≤ℤ q.slack → IsSound q t → EndsSo q units t end → LowIs q t end low →
    (end ≡ Clear) ↔ ((t.up -ℤ low) ≤ℤ q.slack)
clear_exactly q units t Clear low some so ends is = (λ e. near_end q t.least t.up low some so.near is, λ h. refl)
clear_exactly q units t Spent low some so ends is =
    (λ e. absurd (let h : Spent ≡ Clear = e in cc), λ h. absurd (far_end q t ends.0 ends.1 low ends.2 ends.3 is h))
clear_exactly q units t (Grain p) low some so ends is =
    (λ e. absurd (let h : Grain p ≡ Clear = e in cc), λ h. absurd (far_end q t ends.0 ends.1 low ends.2 ends.3 is h))

-- a cell of one unit lies inside the domain
pub grain_inside : (q : Question) (units : ℕ) (t : Trail) (end : FibreEnd) → IsSound q t → EndsSo q units t end → GrainIsInside end
grain_inside q units t Clear so ends = tt
grain_inside q units t Spent so ends = tt
grain_inside q units t (Grain p) so ends =
    let deep = subst IsDeep ends.2 so.deep in
    let inside = deep_inside ends.0 ends.1 deep in
    let ordered = deep_ordered ends.0 ends.1 deep in
    let at = ends.6 in
    rw at (omega (arith, inside, ordered))
