use Rattle.std.proofs.Common.{codes, ap, ◌<◌, ◌≤◌, rules, length}
use Rattle.log_laws.specs.Between.{Ends}
use Rattle.report_text.specs.Pieces.{ends_line}
use Rattle.report_text.proofs.Components.{name_at, ends_at-first}
use Rattle.dec_text.proofs.Exports.{adds-then, adds-as}
use Rattle.report_text.proofs.enclosures.put_temperature.Goals as goal

pub returns : goal.returns
returns c =
    let p = c.args.params.now in
    let rows : c.args.i < length p.case.rows = search rules in
    let roots : p.case.n ≤ length p.t = search rules in
    adds-then (adds-then c.in_ok-put_text.ensures
    (adds-as _ (name_at p.case.rows c.args.i _ rows) c.in_ok-put_name.ensures))
    (adds-as _ (ap (λ (v : Ends). ends_line (codes " ") v) (ends_at-first p.case.n p.t c.args.i _ c.requires roots)) c.in_ok-put_ends.ensures)
