use Rattle.std.proofs.Common.{◌≡◌, ◌≤◌, ◌+◌, ◌-◌, ◌/◌, ◌^◌, ◌==◌, ◌||◌, if◌then◌else◌, List, ℕ, slice_index, Bool, true, false, Some, None, refl, sym, ap, ◌∙◌, arith}
use Rattle.std.specs.Prelude.{nat_lt}
use Rattle.std.proofs.lemmas.Bool.{le-ltb, lt-ltb}
use Rattle.case_types.specs.Grid.Cells.{Region, GridPoint, middle_point, region_of, free_sum, middle_sum, middle_of}
use Rattle.log_laws.specs.Sums.{list_below}
use Rattle.density_boxes.proofs.Spread.{spread, middles, middles_listed, sum-middles, spread-middles, sum-spread, spread-past}
use Rattle.density_boxes.proofs.midpoints.midpoint.Goals as goal
use Rattle.density_boxes.proofs.midpoints.midpoint.Goals.{then-sum-gt-WHOLE-via-then-sum-gt-WHOLE, then-sum-gt-WHOLE-via-else-sum-gt-WHOLE+then-packing-eq0}

-- the sum of the middles, as it was found
sum_is : (r : Region) (n sum : ℕ) (xs : List ℕ) → n ≤ 4 → xs ≡ list_below 3 (middle_of r) → sum ≡ free_sum n xs → sum ≡ middle_sum n r
sum_is r n sum xs l e h = rw (e ∙ middles_listed r) at h ∙ sum-middles n r l

pub returns-then-sum-gt-WHOLE-clause-value : goal.returns-then-sum-gt-WHOLE-clause-value
returns-then-sum-gt-WHOLE-clause-value c =
    let r = region_of c.args.cell.now in
    let sum : c.free_sum-sum.result ≡ middle_sum c.args.n r = sum_is r c.args.n c.free_sum-sum.result c.middles-middles.result c.requires.four c.middles-middles.ensures c.free_sum-sum.ensures in
    elim c.then-sum-gt-WHOLE.branch [
      | then-sum-gt-WHOLE-via-then-sum-gt-WHOLE w ↦
          let more : nat_lt (2 ^ 20) (middle_sum c.args.n r) ≡ true = lt-ltb (2 ^ 20) (middle_sum c.args.n r) (omega (arith, sum, w.if-sum-gt-WHOLE)) in rw more refl
      | then-sum-gt-WHOLE-via-else-sum-gt-WHOLE+then-packing-eq0 w ↦
          let none : ((c.args.cell.now.ylo + c.args.cell.now.yhi) / 2 == 0) ≡ true = grind (arith, w.if-packing-eq0) in
          rw none (sym (either (nat_lt (2 ^ 20) (middle_sum c.args.n r)) (middle_point c.args.n r)))
    ]
  where
    either : (b : Bool) (x : GridPoint) → (if b || true then None else Some x) ≡ None
    either true x = refl
    either false x = refl

pub returns-clause-value : goal.returns-clause-value
returns-clause-value c =
    let r = region_of c.args.cell.now in
    let n = c.args.n in
    let three : c.middles-middles.result ≡ middles r = c.middles-middles.ensures ∙ middles_listed r in
    let sum : c.free_sum-sum.result ≡ middle_sum n r = rw three at c.free_sum-sum.ensures ∙ sum-middles n r c.requires.four in
    let shares : c.composition.result ≡ spread n (middle_of r) (2 ^ 20 - middle_sum n r) =
    c.composition.ensures
    ∙ ap (λ (xs : List ℕ). spread n (slice_index xs) c.rest_of.result) three
    ∙ ap (spread n (slice_index (middles r))) (rw sum at c.rest_of.ensures)
    ∙ spread-middles n r (2 ^ 20 - middle_sum n r) c.requires.four in
    let small : nat_lt (2 ^ 20) (middle_sum n r) ≡ false = le-ltb (2 ^ 20) (middle_sum n r) (omega (arith, sum)) in
    let some : ((c.args.cell.now.ylo + c.args.cell.now.yhi) / 2 == 0) ≡ false = grind (arith, c.if-packing-eq0.false) in
    rw (small, some, shares) refl

pub returns-clause-point : goal.returns-clause-point
returns-clause-point c =
    let free : List ℕ = c.middles-middles.result in
    let whole = sum-spread c.args.n (slice_index free) c.rest_of.result c.requires.one c.requires.four in
    record {
      whole = rw c.composition.ensures (omega (arith, whole, c.free_sum-sum.ensures, c.rest_of.ensures));
      rest = λ i l. rw c.composition.ensures (spread-past c.args.n (slice_index free) c.rest_of.result i c.requires.one l);
      not_empty = omega (arith, c.if-packing-eq0.false);
      not_full = omega (arith, c.args.cell.now.thick, c.args.cell.now.packed);
    }
