use Rattle.std.proofs.Common.{rules, ◌≤◌, length, lit<, subst, sym}
use Rattle.log_laws.specs.LogE.{HoldsLogE}
use Rattle.log_enclose.proofs.Exports.{holds_log_e_ends}
use Rattle.log_laws.specs.Interval.{ends_of}
use Rattle.slope_form.specs.Forms.{form_of, log_form}
use Rattle.slope_form.specs.Laws.{KeepsLog}
use Rattle.slope_form.proofs.Capped.{entry_is}
use Rattle.slope_form.proofs.Kept.{is_form, if_some}
use Rattle.slope_form.proofs.LogMeanings.{log_means}
use Rattle.slope_form.proofs.operations.log2.Goals as goal

pub returns-clause-value : goal.returns-clause-value
unfolding log_form
returns-clause-value c =
    let lf : 4 ≤ length c.args.f.by = search rules in
    let f0 = entry_is c.args.f.by 0 c.index-f-0.result lf (lit< tt) c.index-f-0.is in
    let f1 = entry_is c.args.f.by 1 c.index-f-1.result lf (lit< tt) c.index-f-1.is in
    let f2 = entry_is c.args.f.by 2 c.index-f-2.result lf (lit< tt) c.index-f-2.is in
    let f3 = entry_is c.args.f.by 3 c.index-f-3.result lf (lit< tt) c.index-f-3.is in
    cc

pub returns-clause-holds : goal.returns-clause-holds
returns-clause-holds c =
    let f = form_of c.args.f in
    let e = ends_of c.args.e in
    if_some (KeepsLog f) c.form.result (log_form f e) (returns-clause-value c)
    (λ h q d x y m. log_means f h e d x y (is_form c.args.f) (subst HoldsLogE (sym c.requires) holds_log_e_ends) c.args.e.ordered q m)
