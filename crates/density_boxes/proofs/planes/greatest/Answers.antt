use Rattle.std.proofs.Common.{◌∙◌, ◌<◌, ◌^◌, ℤ, pos, unsigned_abs, slice_index_or, arith, to_z}
use Rattle.std.specs.Int.{w128, int_max}
use Rattle.std.proofs.lemmas.Int.{ints, clamps}
use Rattle.log_laws.proofs.Exports.{back, greatest-first, greatest-next}
use Rattle.density_boxes.proofs.planes.greatest.Goals as goal

pub loop-i-init : goal.loop-i-init
loop-i-init c =
    let s = c.potential-most.ensures.small in
    record {
      whole = back c.potential-most.result (omega (arith, s)) ∙ c.potential-most.ensures.value ∙ greatest-first (λ i. slice_index_or c.args.plane.now.lam i (pos 0));
      small = rw (back c.potential-most.result (omega (arith, s))) s;
    }

-- the greater of two potentials is small
greater_small : (a b : ℤ) → unsigned_abs a < 2 ^ 80 → unsigned_abs b < 2 ^ 80 → unsigned_abs (int_max a b) < 2 ^ 80
greater_small a b h g = omega (arith, ints, clamps, h, g)

pub loop-i-preserved : goal.loop-i-preserved
loop-i-preserved c =
    let lam = c.args.plane.now.lam in
    let before = to_z w128 c.loop-i.most-bits in
    let p = c.potential.ensures.small in
    let e = rw (back c.potential.result (omega (arith, p))) at c.max-most.ensures.value in
    let s : unsigned_abs c.max-most.result < 2 ^ 80 = rw e (greater_small before c.potential.result c.loop-i.invariant.small p) in
    record {
      whole = back c.max-most.result (omega (arith, s)) ∙ e
          ∙ greatest-next c.loop-i.i (λ i. slice_index_or lam i (pos 0)) (slice_index_or lam 0 (pos 0)) before c.potential.result c.loop-i.invariant.whole c.potential.ensures.value;
      small = rw (back c.max-most.result (omega (arith, s))) s;
    }
