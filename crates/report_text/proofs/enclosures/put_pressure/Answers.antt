use Rattle.std.proofs.Common.{codes, ap, ◌<◌, rules, length}
use Rattle.case_types.specs.Energy.Instances.{pair_place}
use Rattle.log_laws.specs.Between.{Ends}
use Rattle.report_text.specs.Pieces.{ends_line}
use Rattle.report_text.proofs.Components.{name_at, ends_at-all}
use Rattle.dec_text.proofs.Exports.{adds-then, adds-as}
use Rattle.report_text.proofs.enclosures.put_pressure.Goals as goal

pub returns : goal.returns
returns c =
    let p = c.args.params.now in
    let rows : c.args.i < length p.case.rows = search rules in
    let other_rows : c.args.j < length p.case.rows = search rules in
    let roots : pair_place c.args.i c.args.j < length p.q = search rules in
    adds-then (adds-then (adds-then (adds-then c.in_ok-put_text.ensures
    (adds-as _ (name_at p.case.rows c.args.i _ rows) c.in_ok-put_name.ensures))
    c.in_ok-put_text-2.ensures)
    (adds-as _ (name_at p.case.rows c.args.j _ other_rows) c.in_ok-put_name-2.ensures))
    (adds-as _ (ap (λ (v : Ends). ends_line (codes " ") v) (ends_at-all p.q (pair_place c.args.i c.args.j) _ roots)) c.in_ok-put_ends.ensures)
