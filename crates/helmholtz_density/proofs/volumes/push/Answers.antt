use Rattle.std.proofs.Common.{refl, arith, ◌*◌, ◌<◌}
use Rattle.case_types.specs.Arithmetic.Bounds.{covolume_scale}
use Rattle.case_types.specs.Arithmetic.Numbers.{numbers_of}
use Rattle.pr_params.proofs.Exports.{e_hi_is}
use Rattle.helmholtz_density.proofs.Terms.{quotient_is}
use Rattle.helmholtz_density.proofs.volumes.push.Goals as goal

pub returns-clause-value : goal.returns-clause-value
returns-clause-value c =
    let p = numbers_of c.args.params.now.case in
    let some : 0 < c.args.y * covolume_scale p = omega (arith, c.scaled.ensures.value, c.scaled.ensures.low) in
    quotient_is p.log_e.hi 1586260020565 c.args.b c.args.y (covolume_scale p) c.raised.result (e_hi_is c.args.params.now.case) some
    (rw (c.raised.ensures.value, c.stretched.ensures.value, c.scaled.ensures.value) refl)
