use Rattle.std.proofs.Common.{◌≡◌, ◌∙◌, ◌*◌, ◌/◌, ◌≤◌, refl, sym, arith}
use Rattle.log_laws.specs.Squaring.{log_down}
use Rattle.case_types.specs.Arithmetic.Bounds.{covolume_scale}
use Rattle.case_types.specs.Arithmetic.Numbers.{numbers_of}
use Rattle.pr_params.proofs.Exports.{e_lo_is, log_some}
use Rattle.tangent_bound.proofs.Terms.{volume_down_is}
use Rattle.tangent_bound.proofs.volumes.at_end.Goals as goal
use Rattle.log_laws.proofs.Exports.{natural_sum_read}

pub returns-clause-value : goal.returns-clause-value
returns-clause-value c = λ y is.
    let p = numbers_of c.args.params.now.case in
    let l = c.args.logs.now in
    let q = c.quotient.ensures.small in
    let packing = is.packing in
    let some : 1 ≤ y = omega (arith, packing, c.requires) in
    let quotient : c.quotient.result ≡ 1586259924992 * c.args.mix.now.covolume / (y * covolume_scale p) =
    c.quotient.ensures.value ∙ rw (c.stretched-w.ensures.value, c.scaled-scaled.ensures.value, packing) refl in
    natural_sum_read l.packing_low c.quotient.result (omega (arith, l.packing_low_small)) (omega (arith, q))
    ∙ rw (is.packing_low, log_some log_down y some, quotient) refl
    ∙ sym (volume_down_is p c.args.mix.now.covolume 1586259924992 (covolume_scale p) y (e_lo_is c.args.params.now.case) refl)
