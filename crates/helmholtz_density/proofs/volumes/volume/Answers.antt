use Rattle.std.proofs.Common.{◌≡◌, ◌≤◌, ◌∙◌, ◌^◌, ◌*ℤ◌, pos, neg_ℤ, arith}
use Rattle.std.proofs.lemmas.Int.{ints}
use Rattle.log_laws.specs.Squaring.{log_up}
use Rattle.log_laws.specs.Whole.{ceil_div}
use Rattle.case_types.specs.Arithmetic.Bounds.{covolume_scale}
use Rattle.case_types.specs.Arithmetic.Numbers.{numbers_of}
use Rattle.pr_params.proofs.Exports.{log_some}
use Rattle.helmholtz_density.proofs.Terms.{volume_up_is, log_up_of_half}
use Rattle.helmholtz_density.proofs.volumes.volume.Goals as goal
use Rattle.log_laws.proofs.Exports.{natural_sum_read}

pub returns-clause-value : goal.returns-clause-value
returns-clause-value c = λ y is.
    let p = numbers_of c.args.params.now.case in
    let l = c.args.logs.now in
    let s = c.push.ensures.small in
    let packing = is.packing in
    let some : 1 ≤ y = omega (arith, packing, c.requires.some) in
    let push : pos c.push.result ≡ ceil_div (p.log_e.hi *ℤ pos c.args.b) (pos y *ℤ pos (covolume_scale p)) = rw packing at c.push.ensures.value in
    natural_sum_read l.packing_high c.push.result (omega (arith, l.packing_high_small)) (omega (arith, s))
    ∙ volume_up_is p (pos c.args.b) y l.packing_high (pos c.push.result) (is.packing_high ∙ log_some log_up y some) push

pub returns-clause-small : goal.returns-clause-small
returns-clause-small c =
    let l = c.args.logs.now in
    let s = c.push.ensures.small in
    rw (natural_sum_read l.packing_high c.push.result (omega (arith, l.packing_high_small)) (omega (arith, s))) (omega (arith, ints, l.packing_high_small, s))

pub returns-clause-at_half : goal.returns-clause-at_half
returns-clause-at_half c = λ is.
    let l = c.args.logs.now in
    let s = c.push.ensures.small in
    let h = c.push.ensures.at_half is.packing in
    let log : l.packing_high ≡ neg_ℤ (pos (2 ^ 40)) = is.packing_high ∙ log_up_of_half in
    rw (natural_sum_read l.packing_high c.push.result (omega (arith, l.packing_high_small)) (omega (arith, s)), log) (omega (arith, ints, h))

pub returns-clause-not_deep : goal.returns-clause-not_deep
returns-clause-not_deep c =
    let l = c.args.logs.now in
    let s = c.push.ensures.small in
    rw (natural_sum_read l.packing_high c.push.result (omega (arith, l.packing_high_small)) (omega (arith, s))) (omega (arith, ints, l.packing_high_small))
