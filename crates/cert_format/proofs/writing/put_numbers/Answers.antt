use Rattle.std.proofs.Common.{rules, SFits, get_or, pos}
use Rattle.std.specs.Int.{w128}
use Rattle.std.proofs.lemmas.Int.{to_z-of_z}
use Rattle.dec_text.proofs.Exports.{adds-then, adds-as}
use Rattle.cert_format.proofs.Texts.{numbers-more}
use Rattle.cert_format.proofs.writing.put_numbers.Goals as goal

pub loop-z-preserved : goal.loop-z-preserved
loop-z-preserved c =
    let fits : SFits w128 (get_or c.args.numbers.now c.loop-z.z-index (pos 0)) = search rules in
    adds-as _ (numbers-more c.args.numbers.now c.loop-z.z-index (pos 0) c.loop-z-test.true)
    (adds-then c.loop-z.invariant (adds-then c.in_ok-put_text.ensures (simp to_z-of_z at c.in_ok-put_number.ensures)))
