use Rattle.std.proofs.Common.{arith}
use Rattle.surface_rounds.proofs.PureColumns.{pure_more}
use Rattle.surface_rounds.proofs.pure_columns.keep_pure.Goals as goal

pub loop-k-preserved : goal.loop-k-preserved
loop-k-preserved g c =
    let s = g.S.Surface.bounds c.args.surface.now in
    let pushed = c.push.ensures in
    record {
      pure = rw pushed.items (pure_more s c.loop-k.k c.loop-k.columns.items c.pure_column.result c.loop-k.invariant.pure c.pure_column.ensures.column c.pure_column.ensures.pure);
      room = omega (arith, pushed.room, c.loop-k.invariant.room);
    }
