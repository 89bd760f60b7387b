use Rattle.std.proofs.Common.{◌∙◌, arith}
use Rattle.std.proofs.lemmas.Int.{ints}
use Rattle.split_energies.proofs.ScanSteps.{scan_begun, scan_replaced, scan_kept, packing_of, up_of}
use Rattle.split_energies.proofs.scans.scan.Goals as goal
use Rattle.split_energies.proofs.scans.scan.Goals.{then-next-best, else-next-best}

pub loop-k-init : goal.loop-k-init
loop-k-init g c = λ x m. scan_begun (g.S.Surface.bounds c.args.surface.now) x c.half-best.result (c.half-best.ensures.at x m) (c.half-best.ensures.small x m)

pub loop-k-preserved : goal.loop-k-preserved
loop-k-preserved g c = λ x m.
    let s = g.S.Surface.bounds c.args.surface.now in
    let best = c.loop-k.invariant x m in
    let next = c.state-next.ensures in
    let at = packing_of s x c.packing_at.result c.state-next.result (next.at x m) ∙ c.packing_at.ensures.value in
    let up = up_of s x c.packing_at.result c.state-next.result (next.at x m) in
    elim c.if-next-best.branch [
      | then-next-best w ↦
          rw w.best-is (scan_replaced s x c.loop-k.k c.loop-k.best c.state-next.result best at up (next.not_deep x m)
          (omega (arith, ints, w.if-next-best.true, next.small, best.small)))
      | else-next-best w ↦
          rw w.best-is (scan_kept s x c.loop-k.k c.loop-k.best c.state-next.result best at up
          (omega (arith, ints, w.if-next-best.false, next.small, best.small)))
    ]
