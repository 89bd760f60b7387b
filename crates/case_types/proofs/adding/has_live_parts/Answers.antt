use Rattle.std.proofs.Common.{ℕ, ◌<◌, [], get_or, length, map, below_more, refl, arith}
use Rattle.std.proofs.lemmas.List.{length-map}
use Rattle.case_types.specs.declared.phases.Phase.{Phase}
use Rattle.case_types.specs.Energy.Divisions.{State, moles, state_of}
use Rattle.case_types.proofs.States.{live_parts, states_of}
use Rattle.case_types.proofs.adding.has_live_parts.Goals as goal

abbrev no_phase : Phase
no_phase = record { parts = []; packing = 0 }

pub returns-then-not-has_live_part : goal.returns-then-not-has_live_part
returns-then-not-has_live_part c =
    let items = c.args.split.now.phases.items in
    let same = c.deref-phase-items.ensures.0 in
    let inside : c.loop-phase.phase-index < length items = rw same at c.loop-phase-test.true in (
      λ t. absurd (cc t),
      λ all.
          let state = all c.loop-phase.phase-index (state_of no_phase) (rw length-map inside) in
          let live = live_parts c.args.case.now.n items c.loop-phase.phase-index no_phase (state_of no_phase) inside in
          let some = state.some in
          let found = c.has_live_part.ensures.1 (rw same (omega (arith, live, some))) in
          rw c.if-not-has_live_part.true at found,
    )

pub loop-phase-preserved : goal.loop-phase-preserved
loop-phase-preserved c =
    let items = c.args.split.now.phases.items in
    let same = c.deref-phase-items.ensures.0 in
    let inside : c.loop-phase.phase-index < length items = rw same at c.loop-phase-test.true in
    let here = rw same at c.has_live_part.ensures.0 c.if-not-has_live_part.false in
    below_more (λ (k : ℕ). (d : State) → 0 < moles c.args.case.now.n (get_or (map state_of items) k d)) c.loop-phase.phase-index c.loop-phase.invariant
    (λ (d : State). let live = live_parts c.args.case.now.n items c.loop-phase.phase-index no_phase d inside in omega (arith, live, here))

pub returns : goal.returns
returns c =
    let split = c.args.split.now in
    let ended = rw c.deref-phase-items.ensures.0 at c.loop-phase-test.false in
    (λ t. states_of c.args.case.now.n split (λ k l d. c.loop-phase.invariant k (omega (arith, l, ended)) d), λ a. refl)
