use Rattle.std.proofs.Common.{arith}
use Rattle.case_types.proofs.Exports.{total_positive}
use Rattle.candidate_split.proofs.TwoPhases.{fine_split, two_phases_divide}
use Rattle.candidate_split.proofs.two_phases.shared.Goals as goal

pub invariant_of-result : goal.invariant_of-result
invariant_of-result c =
    let a = c.args in
    let r = c.requires in
    let fine = fine_split a.case.now a.v a.y.now a.vapour a.liquid r.share r.composition r.fits r.vapour_some r.vapour_inside r.liquid_some r.liquid_inside in
    record {
      positive = omega (arith, total_positive a.case.now, a.case.now.total_high);
      small = omega (arith, a.case.now.total_high);
      some = rw c.phases_of.ensures fine.some;
      parted = rw c.phases_of.ensures fine.parts;
      packed = rw c.phases_of.ensures fine.packings;
    }

pub returns-clause-split : goal.returns-clause-split
returns-clause-split c = record { sum = omega (arith, c.args.case.now.total_high); phases = c.phases_of.ensures }

pub returns-clause-divides : goal.returns-clause-divides
returns-clause-divides c =
    let a = c.args in
    let r = c.requires in
    two_phases_divide a.case.now a.v a.y.now a.vapour a.liquid _ r.share r.composition r.fits r.vapour_some r.vapour_inside r.liquid_some r.liquid_inside
    (returns-clause-split c)
