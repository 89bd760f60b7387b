use Rattle.std.proofs.Common.{◌≡◌, ◌*◌, ◌^◌, ◌≤ℤ◌, pos, subst, sym}
use Rattle.std.proofs.lemmas.Result.{IfOk-weaker}
use Rattle.case_types.specs.declared.answers.Answer.{Answer}
use Rattle.case_types.specs.declared.answers.Outcome.TheVariants.{Closed}
use Rattle.case_types.specs.Energy.Divisions.{Certified, division_of}
use Rattle.case_types.specs.Energy.Instances.{Enclosures}
use Rattle.case_types.specs.Arithmetic.Numbers.{numbers_of}
use Rattle.case_types.specs.Energy.Printed.{enclosures_in}
use Rattle.energy_surface.specs.Lawful.{IsLawful}
use Rattle.energy_surface.proofs.Exports.{closed_is_near}
use Rattle.pr_params.proofs.Exports.{count_of}
use Rattle.pr_surface.specs.PengRobinson.{surface_of}
use Rattle.plane_rounds.proofs.Certifying.{certified}
use Rattle.plane_rounds.proofs.flash.flash_tp.Goals as goal

pub flashed-requires-clause-components : goal.flashed-requires-clause-components
flashed-requires-clause-components c = sym (count_of c.args.params.now.case)

pub returns-clause-certified : goal.returns-clause-certified
returns-clause-certified c =
    let p = c.args.params.now in
    IfOk-weaker c.flashed.result (IsLawful (surface_of (numbers_of p.case)) p.case c.args.tol c.args.budget)
    (λ (a : Answer). Certified p.case (enclosures_in p.case.n p.two p.e p.t p.q) (division_of a.split) a.u a.gap)
    (λ a h. subst (λ (e : Enclosures). Certified p.case e (division_of a.split) a.u a.gap) (sym p.printed)
    (certified p.case c.args.tol c.args.budget a p.accepted h.answer)) c.flashed.ensures

pub returns-clause-near : goal.returns-clause-near
returns-clause-near c =
    let case = c.args.params.now.case in
    IfOk-weaker c.flashed.result (IsLawful (surface_of (numbers_of case)) case c.args.tol c.args.budget) (λ (a : Answer). a.outcome ≡ Closed → a.gap ≤ℤ pos (3 * c.args.tol * 2 ^ 18))
    (λ a h. closed_is_near (surface_of (numbers_of case)) case c.args.tol c.args.budget a h) c.flashed.ensures
