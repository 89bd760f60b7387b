use Rattle.std.proofs.Common.{◌∙◌, refl, sym}
use Rattle.case_types.specs.Arithmetic.Numbers.{numbers_of}
use Rattle.pr_params.proofs.Exports.{e_lo_is, e_hi_is}
use Rattle.tangent_bound.proofs.Terms.{flat_is}
use Rattle.tangent_bound.proofs.volumes.falls_to.Goals as goal

pub returns-clause-value : goal.returns-clause-value
returns-clause-value c =
    let case = c.args.params.now.case in
    c.flat.ensures.value ∙ rw (c.stretched-w.ensures.value) refl
    ∙ sym (flat_is (numbers_of case) c.args.b 1586259924992 1586260020565 c.volume_scale.result (e_lo_is case) (e_hi_is case) c.volume_scale.ensures.value)
