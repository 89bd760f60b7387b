use Rattle.std.proofs.Common.{arith, refl, ◌≡◌, ◌^◌, pos, ◌*ℤ◌}
use Rattle.std.proofs.lemmas.Int.{ints}
use Rattle.log_laws.proofs.Exports.{back}
use Rattle.fix_interval.proofs.Division.{least_by_greater, least_by_less}
use Rattle.fix_interval.proofs.Wrapped.{scaled_is}
use Rattle.fix_interval.proofs.quotients.least.Goals.{then-z-lt0, else-z-lt0}
use Rattle.fix_interval.proofs.quotients.least.Goals as goal

pub returns-clause-value : goal.returns-clause-value
returns-clause-value c =
    let z = c.args.z in
    let b = c.args.b in
    let k = 2 ^ c.args.shift in
    let s : c.scaled.result ≡ z *ℤ pos k = scaled_is z c.scaled.result k c.requires.z c.scaled.ensures.value in
    let v = rw (back c.scaled.result (omega (arith, c.scaled.ensures.small)), s) at c.floor_quotient.ensures.value in
    let r = back c.floor_quotient.result (omega (arith, c.floor_quotient.ensures.small)) in
    let one = c.requires.positive in
    let order = b.ordered in
    elim c.if-z-lt0.branch [
      | then-z-lt0 w ↦ rw (r, v, w.divisor-is, back b.lo (omega (arith, b.lo_small)), least_by_less z b.lo b.hi k one order (omega (arith, ints, w.if-z-lt0))) refl
      | else-z-lt0 w ↦ rw (r, v, w.divisor-is, back b.hi (omega (arith, b.hi_small)), least_by_greater z b.lo b.hi k one order (omega (arith, ints, w.if-z-lt0))) refl
    ]
