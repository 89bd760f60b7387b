use Rattle.std.proofs.Common.{ℕ, ◌≡◌, ◌<◌, ◌≤◌, ◌+◌, ◌*◌, ◌^◌, ℤ, ◌+ℤ◌, unsigned_abs, to_z, of_z, [], arith}
use Rattle.std.proofs.lemmas.Int.{ints}
use mir.Syntax.{w128}
use Rattle.split_energies.proofs.Parts.{phase_of, sum_step, sum_end}
use Rattle.split_energies.proofs.splits.split_energy.Goals as goal

pub weighed_energy-energy-requires-clause-some : goal.weighed_energy-energy-requires-clause-some
weighed_energy-energy-requires-clause-some g c =
    let e = c.deref-phase-items.ensures.0 in
    let l = rw e at c.loop-phase-test.true in
    rw e (phase_of c.args.case.now c.args.split.now c.loop-phase.phase-index (record { parts = []; packing = 0 }) c.requires.divides l).some

pub weighed_energy-energy-requires-clause-inside : goal.weighed_energy-energy-requires-clause-inside
weighed_energy-energy-requires-clause-inside g c =
    let e = c.deref-phase-items.ensures.0 in
    let l = rw e at c.loop-phase-test.true in
    rw e (phase_of c.args.case.now c.args.split.now c.loop-phase.phase-index (record { parts = []; packing = 0 }) c.requires.divides l).inside

pub weighed_energy-energy-requires-clause-packed : goal.weighed_energy-energy-requires-clause-packed
weighed_energy-energy-requires-clause-packed g c =
    let e = c.deref-phase-items.ensures.0 in
    let l = rw e at c.loop-phase-test.true in
    rw e (phase_of c.args.case.now c.args.split.now c.loop-phase.phase-index (record { parts = []; packing = 0 }) c.requires.divides l).packed

pub weighed_energy-energy-requires-clause-not_full : goal.weighed_energy-energy-requires-clause-not_full
weighed_energy-energy-requires-clause-not_full g c =
    let e = c.deref-phase-items.ensures.0 in
    let l = rw e at c.loop-phase-test.true in
    rw e (phase_of c.args.case.now c.args.split.now c.loop-phase.phase-index (record { parts = []; packing = 0 }) c.requires.divides l).not_full

-- a sum of no more than four shares fits
fits : (z s : ℤ) (k : ℕ) → k < 4 → unsigned_abs z ≤ k * 2 ^ 107 → unsigned_abs s ≤ 2 ^ 107 →
    (to_z w128 (of_z w128 (z +ℤ to_z w128 (of_z w128 s))) ≡ z +ℤ s) × (unsigned_abs (z +ℤ s) ≤ (k + 1) * 2 ^ 107)
fits z s k h l g = (omega (arith, ints), omega (arith, ints))

pub loop-phase-preserved : goal.loop-phase-preserved
loop-phase-preserved g c =
    let e = c.deref-phase-items.ensures.0 in
    let l = rw e at c.loop-phase-test.true in
    let few : c.loop-phase.phase-index < 4 = omega (arith, c.loop-phase-test.true, c.deref-phase-items.ensures.1) in
    let k = c.loop-phase.invariant in
    let f = fits (to_z w128 c.loop-phase.energy-bits) c.weighed_energy-energy.result c.loop-phase.phase-index few k.small c.weighed_energy-energy.ensures.small in
    let v = rw e at c.weighed_energy-energy.ensures.value in
    rw f.0 (record {
      whole = sum_step c.args.case.now.n (g.S.Surface.bounds c.args.surface.now).up c.args.split.now.sum c.args.split.now.phases.items c.loop-phase.phase-index
          (record { parts = []; packing = 0 }) (to_z w128 c.loop-phase.energy-bits) c.weighed_energy-energy.result l k.whole v;
      small = f.1;
    })

pub returns-clause-value : goal.returns-clause-value
returns-clause-value g c =
    let e = c.deref-phase-items.ensures.0 in
    let l = rw e at c.loop-phase-test.false in
    sum_end c.args.case.now.n (g.S.Surface.bounds c.args.surface.now).up c.args.split.now.sum c.args.split.now.phases.items c.loop-phase.phase-index
    (to_z w128 c.loop-phase.energy-bits) l c.loop-phase.invariant.whole
