use Rattle.std.proofs.Common.{◌<◌, length, ◌∙◌, arith}
use Rattle.std.proofs.lemmas.Int.{ints}
use Rattle.log_laws.proofs.Exports.{back}
use Rattle.surface_rounds.proofs.Choosing.{least_begun, least_lower, least_stays}
use Rattle.surface_rounds.proofs.choices.least.Goals as goal
use Rattle.surface_rounds.proofs.choices.least.Goals.{then-next-least, else-next-least}

pub loop-k-init : goal.loop-k-init
loop-k-init c = rw (back c.args.basis (omega (arith, c.requires))) (record { least = least_begun c.args.rivals.now.items c.args.basis; small = c.requires })

pub loop-k-preserved : goal.loop-k-preserved
loop-k-preserved c =
    let rivals = c.args.rivals.now.items in
    let i = c.loop-k.invariant in
    let next = c.energy-next.ensures in
    let inside : c.loop-k.k < length rivals = omega (arith, c.loop-k-test.true, c.len-k-end.ensures.value) in
    let basis = back c.args.basis (omega (arith, c.requires)) in
    elim c.if-next-least.branch [
      | then-next-least w ↦
          rw (basis, w.least-is ∙ back c.energy-next.result (omega (arith, next.small))) record {
            least = least_lower rivals c.loop-k.k c.args.basis c.loop-k.least c.energy-next.result (rw (basis, c.loop-k.least-is) at i.least) inside next.value (omega (arith, ints, w.if-next-least.true, next.small, i.small));
            small = next.small;
          }
      | else-next-least w ↦
          rw (basis, w.least-is ∙ c.loop-k.least-is) record {
            least = least_stays rivals c.loop-k.k c.args.basis c.loop-k.least c.energy-next.result (rw (basis, c.loop-k.least-is) at i.least) next.value (omega (arith, ints, w.if-next-least.false, next.small, i.small));
            small = rw c.loop-k.least-is at i.small;
          }
    ]
