use Rattle.std.proofs.Common.{slice_index, refl, arith}
use Rattle.log_laws.proofs.Exports.{le-sum_below}
use Rattle.case_types.proofs.adding.has_live_part.Goals as goal

pub returns-then-phase-i-gt0 : goal.returns-then-phase-i-gt0
returns-then-phase-i-gt0 c =
    let part = le-sum_below c.args.n c.loop-i.i (slice_index c.args.phase.now.parts) c.loop-i-test.true in
    let some = c.if-phase-i-gt0.true in
    (λ t. omega (arith, part, some), λ a. refl)
