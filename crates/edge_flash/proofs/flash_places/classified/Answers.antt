use Rattle.std.proofs.Common.{ℕ, ◌*◌, ◌^◌, ◌≤◌, ℤ, pos, ◌≤ℤ◌, inl, refl, arith}
use Rattle.std.proofs.lemmas.Int.{ints}
use Rattle.case_types.specs.Energy.Divisions.{division_of}
use Rattle.answer_sizes.proofs.Exports.{gap_positive, upper_small}
use Rattle.energy_surface.proofs.Exports.{closed_is_near}
use Rattle.edge_flash.proofs.EndKinds.{beside_says}
use Rattle.edge_flash.proofs.flash_places.classified.Goals as goal

pub returns-then-not-is_closed-clause-says : goal.returns-then-not-is_closed-clause-says
returns-then-not-is_closed-clause-says g c = inl (record {
  answer = c.args.answer.now;
  flashed = c.requires.flashed;
  same = refl;
  not_closed = λ e. cc (c.is_closed.ensures.1 e, c.if-not-is_closed.true);
  spent = refl;
})

pub beside-requires-clause-u_small : goal.beside-requires-clause-u_small
beside-requires-clause-u_small g c =
    upper_small (g.F.Flash.surface c.args.case.now) c.args.case.now c.args.base.now.tol c.args.base.now.budget c.args.answer.now c.phases_are_few.ensures c.requires.flashed.lawful

pub beside-requires-clause-gap_low : goal.beside-requires-clause-gap_low
beside-requires-clause-gap_low g c = gap_positive c.args.case.now (division_of c.args.answer.now.split) c.args.answer.now.u c.args.answer.now.gap c.requires.flashed.certified

pub beside-requires-clause-gap_high : goal.beside-requires-clause-gap_high
beside-requires-clause-gap_high g c =
    within c.args.answer.now.gap c.args.base.now.tol c.args.base.now.tol_high
    (closed_is_near (g.F.Flash.surface c.args.case.now) c.args.case.now c.args.base.now.tol c.args.base.now.budget c.args.answer.now c.requires.flashed.lawful
    (c.is_closed.ensures.0 c.if-not-is_closed.false))
  where
    within : (gap : ℤ) (tol : ℕ) → tol ≤ 1048576 → gap ≤ℤ pos (3 * tol * 2 ^ 18) → gap ≤ℤ pos (2 ^ 40)
    within gap tol h k = omega (arith, ints, h, k)

pub returns-in-Ok-clause-says : goal.returns-in-Ok-clause-says
returns-in-Ok-clause-says g c =
    beside_says (g.F.Flash.surface c.args.case.now) g.P.OnePhase.is_walk c.args.case.now c.args.base.now.tol c.args.base.now.budget c.args.answer.now c.in-Ok.walked.units
    c.in-Ok.walked.fibre c.beside.result c.requires.flashed (c.is_closed.ensures.0 c.if-not-is_closed.false) c.in-Ok.ensures.walk c.beside.ensures.tells

pub returns-in-Err-clause-says : goal.returns-in-Err-clause-says
returns-in-Err-clause-says g c = (c.in-Err.ensures.refused c.in-Err.fault).0 refl
