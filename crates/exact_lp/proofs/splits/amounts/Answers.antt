use Rattle.std.proofs.Common.{◌≡◌, ℕ, ◌^◌, ◌<◌, ◌≤◌, slice_index, sym, ◌∙◌, arith}
use Rattle.std.proofs.lemmas.Option.{get_or_from_slice_get}
use Rattle.energy_surface.specs.Program.Bases.{no_column}
use Rattle.energy_surface.specs.Program.Splits.{weight_of}
use Rattle.exact_lp.proofs.AfterPivot.{spans_above}
use Rattle.exact_lp.proofs.PlaneEntries.{feed_live}
use Rattle.exact_lp.proofs.SplitOfBasis.{phases_few, phases_more, phases_some, phases_parted, phases_packed, phases_none, basis_split_divides}
use Rattle.exact_lp.proofs.splits.amounts.Goals as goal

pub loop-k-init : goal.loop-k-init
loop-k-init c = c.new-phases.ensures ∙ sym (phases_none c.args.case.now c.args.columns.now.items c.args.basis.now.at)

pub add_phase-requires-clause-small : goal.add_phase-requires-clause-small
add_phase-requires-clause-small c = c.weights-weights.ensures.light c.loop-k.k (omega arith)

pub add_phase-requires-clause-room : goal.add_phase-requires-clause-room
add_phase-requires-clause-room c =
    let v = c.args.case.now in
    rw c.loop-k.invariant (omega (arith, phases_few v c.args.columns.now.items c.args.basis.now.at c.loop-k.k, v.few))

pub loop-k-preserved : goal.loop-k-preserved
loop-k-preserved c =
    let v = c.args.case.now in
    let cols = c.args.columns.now.items in
    let at = c.args.basis.now.at in
    let k = c.loop-k.k in
    let weight = c.weights-weights.ensures.weights k (omega arith) in
    let d = get_or_from_slice_get cols (slice_index at k) c.get-column.result.now no_column c.get-column.ensures in
    rw (phases_more v cols at k) (rw (weight, ← d, c.loop-k.invariant) at c.add_phase.ensures)

pub invariant_of-result : goal.invariant_of-result
invariant_of-result c =
    let v = c.args.case.now in
    let cols = c.args.columns.now.items in
    let at = c.args.basis.now.at in
    let w = c.weights-weights.ensures in
    let small : (k : ℕ) → k < v.n → weight_of v cols at k ≤ 2 ^ 80 = λ k h. rw (w.weights k h) at (w.light k h) in
    let last : c.loop-k.k ≡ v.n = omega arith in
    let items = rw last at c.loop-k.invariant in
    record {
      positive = w.some;
      small = w.small;
      some = rw items (phases_some v cols at c.requires.basis (spans_above v cols at c.requires.basis) (feed_live v 0 (omega (arith, v.some))));
      parted = rw items (phases_parted v cols at c.requires.columns c.requires.basis small);
      packed = rw items (phases_packed v cols at c.requires.columns c.requires.basis small);
    }

pub returns-clause-split : goal.returns-clause-split
returns-clause-split c =
    let last : c.loop-k.k ≡ c.args.case.now.n = omega arith in
    record { sum = c.weights-weights.ensures.sum; phases = rw last at c.loop-k.invariant }

pub returns-clause-divides : goal.returns-clause-divides
returns-clause-divides c =
    basis_split_divides c.args.case.now c.args.columns.now.items c.args.basis.now.at _ c.requires.columns c.requires.basis (returns-clause-split c)
