use Rattle.std.proofs.Common.{[], refl}
use Rattle.std.proofs.lemmas.List.{take_all}
use Rattle.std.proofs.lemmas.List.Elements.{All-get_or, All-more}
use Rattle.candidate_split.specs.Candidates.{IsShallow}
use Rattle.candidate_split.proofs.Phases.{phase_at}
use Rattle.candidate_split.proofs.list.is_shallow.Goals as goal

pub has_small_energy-requires : goal.has_small_energy-requires
has_small_energy-requires c =
    let e = c.deref-phase-items.ensures.0 in
    let l = rw e at c.loop-phase-test.true in
    rw e (phase_at c.args.params.now.case c.args.split.now c.loop-phase.phase-index (record { parts = []; packing = 0 }) c.requires l)

pub returns-then-not-has_small_energy : goal.returns-then-not-has_small_energy
returns-then-not-has_small_energy c =
    let e = c.deref-phase-items.ensures.0 in
    let l = rw e at c.loop-phase-test.true in (
      λ t. absurd (cc t),
      λ all.
          let here = All-get_or (IsShallow c.args.params.now.case) c.args.split.now.phases.items c.loop-phase.phase-index (record { parts = []; packing = 0 }) l all in
          let passes = c.has_small_energy.ensures.1 (rw e here) in
          rw c.if-not-has_small_energy.true at passes,
    )

pub loop-phase-preserved : goal.loop-phase-preserved
loop-phase-preserved c =
    let e = c.deref-phase-items.ensures.0 in
    let l = rw e at c.loop-phase-test.true in
    let here = rw e at c.has_small_energy.ensures.0 c.if-not-has_small_energy.false in
    All-more (IsShallow c.args.params.now.case) c.args.split.now.phases.items c.loop-phase.phase-index (record { parts = []; packing = 0 }) l c.loop-phase.invariant here

pub returns : goal.returns
returns c =
    let e = c.deref-phase-items.ensures.0 in
    let l = rw e at c.loop-phase-test.false in
    (λ t. rw (take_all c.loop-phase.phase-index c.args.split.now.phases.items l) at c.loop-phase.invariant, λ all. refl)
