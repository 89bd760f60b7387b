use Rattle.std.proofs.Common.{◌∙◌, refl, arith, lit<}
use Rattle.std.proofs.lemmas.Int.{ints}
use Rattle.pr_params.proofs.Exports.{e_lo_is, log_size}
use Rattle.tangent_bound.proofs.volumes.where_flat.Goals as goal
use Rattle.log_laws.proofs.Exports.{natural_sum_read}

pub returns-clause-value : goal.returns-clause-value
returns-clause-value c = λ case.
    let s = log_size c.lower.result c.lower.ensures.small in
    natural_sum_read c.lower.result 1586259924992 (omega (arith, s)) (lit< tt) ∙ rw (c.lower.ensures.value, ← e_lo_is case) refl

pub returns-clause-small : goal.returns-clause-small
returns-clause-small c =
    let s = log_size c.lower.result c.lower.ensures.small in
    rw (natural_sum_read c.lower.result 1586259924992 (omega (arith, s)) (lit< tt)) (omega (arith, ints, s))
