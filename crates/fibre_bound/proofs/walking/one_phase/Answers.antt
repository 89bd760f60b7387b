use Rattle.std.proofs.Common.{rules, ◌≡◌, ℕ, ◌-◌, ◌*◌, ◌^◌, ◌≤◌, ◌*ℤ◌, ℤ, pos, FitsSigned, to_z, of_z, ap, subst, ◌∙◌, arith}
use Rattle.std.specs.Int.{w128}
use Rattle.std.proofs.lemmas.Int.{ints}
use Rattle.log_laws.proofs.Exports.{back}
use Rattle.case_types.specs.Arithmetic.Bounds.{Box, box_of}
use Rattle.split_energies.specs.declared.scans.Scanned.{Scanned}
use Rattle.split_energies.specs.Scanned.{state_at, lowest_of}
use Rattle.fibre_bound.specs.Walks.{IsFibre, question_of, question_over}
use Rattle.fibre_bound.proofs.Bounding.{fibre_is_bound}
use Rattle.fibre_bound.proofs.walking.one_phase.Goals.{After-walk}
use Rattle.fibre_bound.proofs.walking.one_phase.Goals as goal

-- the slack as it is read
slack_is : (z : ℤ) (tol : ℕ) → z ≡ pos tol → tol ≤ 1048576 → to_z w128 (of_z w128 (to_z w128 (of_z w128 z) *ℤ pos 16384)) ≡ pos (tol * 2 ^ 14)
slack_is z tol e small =
    rw (e, back (pos tol) (omega (arith, small)))
    (back (pos tol *ℤ pos 16384) (omega (arith, ints, small)) ∙ product tol)
  where
    product : (n : ℕ) → pos n *ℤ pos 16384 ≡ pos (n * 2 ^ 14)
    product n = omega (arith, ints)

fibre : (g : _) (c : After-walk g) →
    IsFibre (question_of (g.S.Surface.bounds c.args.surface.now) c.args.case.now c.args.packings.now.items c.args.tol) (c.args.units.now.budget - c.args.units.now.spent) (c.walk.new.units.spent - c.args.units.now.spent) c.walk.result
fibre g c =
    let s = g.S.Surface.bounds c.args.surface.now in
    let slack = slack_is c.from.result c.args.tol c.from.ensures c.requires.tol in
    let half = c.half.ensures.at (box_of c.feed_box-x.result) c.mix_up.ensures in
    let first = c.lowest-first.ensures.lowest (box_of c.feed_box-x.result) c.mix_up.ensures ∙ ap (λ (f : Scanned). lowest_of s (box_of c.feed_box-x.result) c.args.packings.now.items f) half in
    subst (λ (x : Box). IsFibre (question_over s x (pos (c.args.tol * 2 ^ 14)) (lowest_of s x c.args.packings.now.items (state_at s x (2 ^ 39)))) (c.args.units.now.budget - c.args.units.now.spent) (c.walk.new.units.spent - c.args.units.now.spent) c.walk.result)
    c.feed_box-x.ensures
    (rw (← slack, ← first) c.walk.ensures.fibre)

pub overflow_mul-feed : goal.overflow_mul-feed
overflow_mul-feed g c =
    let e = c.from.ensures in
    let read = back (pos c.args.tol) (omega (arith, c.requires.tol)) in
    rw (e, read) (fits c.args.tol c.requires.tol)
  where
    fits : (n : ℕ) → n ≤ 1048576 → FitsSigned w128 (pos n *ℤ pos 16384)
    fits n small = search (rules, small)

pub invariant_of-feed : goal.invariant_of-feed
invariant_of-feed g c = record { slack_small = rw (slack_is c.from.result c.args.tol c.from.ensures c.requires.tol) (omega (arith, c.requires.tol)) }

pub lowest-first-requires-clause-small : goal.lowest-first-requires-clause-small
lowest-first-requires-clause-small g c = c.half.ensures.small (box_of c.feed_box-x.result) c.mix_up.ensures

pub walk-requires-clause-small : goal.walk-requires-clause-small
walk-requires-clause-small g c = c.lowest-first.ensures.small (box_of c.feed_box-x.result) c.mix_up.ensures

pub returns-clause-fibre : goal.returns-clause-fibre
returns-clause-fibre g c = fibre g (goal.at.returns-clause-fibre g c).After-walk

pub returns-clause-bound : goal.returns-clause-bound
returns-clause-bound g c =
    fibre_is_bound (g.S.Surface.bounds c.args.surface.now) c.args.case.now c.args.packings.now.items c.args.tol
    (c.args.units.now.budget - c.args.units.now.spent) (c.walk.new.units.spent - c.args.units.now.spent) c.walk.result c.requires.inside
    (fibre g (goal.at.returns-clause-bound g c).After-walk)
