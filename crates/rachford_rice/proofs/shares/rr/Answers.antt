use Rattle.std.proofs.Common.{arith, ◌^◌, pos, ◌≤ℤ◌}
use Rattle.std.specs.Prelude.{◌<ℤ◌}
use Rattle.std.proofs.lemmas.Int.{ints}
use Rattle.rachford_rice.specs.declared.shares.VapourShare.TheVariants.{AllLiquid, AllVapour}
use Rattle.rachford_rice.specs.Sum.{rachford_rice}
use Rattle.rachford_rice.proofs.Falling.{falls}
use Rattle.rachford_rice.proofs.Alone.{alone}
use Rattle.rachford_rice.proofs.shares.rr.Goals as goal

pub returns-then-sum_at-lt0-clause-alone : goal.returns-then-sum_at-lt0-clause-alone
returns-then-sum_at-lt0-clause-alone c = λ share right.
    let case = c.args.case.now in
    let k = c.args.k.now in
    let below : rachford_rice case k 0 <ℤ pos 0 = omega (arith, ints) in
    alone (rachford_rice case k) AllLiquid share (falls case k c.requires.ratios) below right

pub returns-then-sum_at-ge0-clause-alone : goal.returns-then-sum_at-ge0-clause-alone
returns-then-sum_at-ge0-clause-alone c = λ share right.
    let case = c.args.case.now in
    let k = c.args.k.now in
    let above : pos 0 ≤ℤ rachford_rice case k (2 ^ 20) = omega (arith, ints) in
    alone (rachford_rice case k) AllVapour share (falls case k c.requires.ratios) above right

pub returns-clause-alone : goal.returns-clause-alone
returns-clause-alone c = λ share right.
    let case = c.args.case.now in
    let k = c.args.k.now in
    alone (rachford_rice case k) c.inside.result share (falls case k c.requires.ratios) c.inside.ensures right
