use Rattle.std.proofs.Common.{[]}
use Rattle.std.proofs.lemmas.List.Elements.{All-append}
use Rattle.case_types.specs.declared.phases.Phase.{Phase}
use Rattle.energy_surface.specs.Columns.{IsColumn}
use Rattle.candidate_split.proofs.Phases.{phase_at}
use Rattle.candidate_split.proofs.NearColumns.{columns_more, few_more}
use Rattle.candidate_split.proofs.columns.columns_of.Goals as goal

no_phase : Phase
no_phase = record { parts = []; packing = 0 }

pub add_column-requires-clause-phase : goal.add_column-requires-clause-phase
add_column-requires-clause-phase g c =
    let e = c.deref-phase-items.ensures.0 in
    let l = rw e at c.loop-phase-test.true in
    rw e (phase_at c.args.case.now c.args.split.now c.loop-phase.phase-index (record { parts = []; packing = 0 }) c.requires.divides l)

pub loop-phase-preserved : goal.loop-phase-preserved
loop-phase-preserved g c =
    let e = c.deref-phase-items.ensures.0 in
    let l = rw e at c.loop-phase-test.true in
    let s = g.S.Surface.bounds c.args.surface.now in
    let n = c.args.case.now.n in
    let fs = c.args.split.now.phases.items in
    let k = c.loop-phase.phase-index in
    let before = c.loop-phase.invariant in
    let grown = rw e at c.add_column.ensures.grown in
    let each = rw e at c.add_column.ensures.each in
    rw grown (record {
      near = columns_more s n fs k (record { parts = []; packing = 0 }) c.loop-phase.columns.items l before.near;
      each = All-append (IsColumn s) c.loop-phase.columns.items _ before.each each;
      few = few_more s n k _ c.loop-phase.columns.items before.few;
    })
