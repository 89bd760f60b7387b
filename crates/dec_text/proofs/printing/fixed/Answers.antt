use Rattle.std.proofs.Common.{◌<◌, ◌^◌, arith}
use Rattle.std.proofs.Math.Nat.{one-le-pow}
use Rattle.dec_text.proofs.printing.fixed.Goals as goal

pub nonzero_div-size : goal.nonzero_div-size
nonzero_div-size c = rw c.pow-unit.ensures (one-le-pow c.args.places 10 (omega arith))

pub nonzero_rem-size : goal.nonzero_rem-size
nonzero_rem-size c = rw c.pow-unit.ensures (one-le-pow c.args.places 10 (omega arith))

pub put_filled-requires-clause-fits : goal.put_filled-requires-clause-fits
put_filled-requires-clause-fits c =
    let some : 0 < 10 ^ c.args.places = one-le-pow c.args.places 10 (omega arith) in
    rw c.pow-unit.ensures (omega arith)
