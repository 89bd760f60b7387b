use Rattle.cert_lines.proofs.Exports.{place_within}
use Rattle.cert_format.specs.Heads.{shape_of}
use Rattle.cert_format.proofs.writing.put_line_at.Goals as goal

pub entry_at-requires : goal.entry_at-requires
entry_at-requires c =
    let h = c.args.head.now in
    place_within (shape_of h) c.args.at c.args.place h.params.case.few c.requires
