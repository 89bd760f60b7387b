use Rattle.std.proofs.Common.{◌≡◌, ◌∙◌, ◌≤◌, ◌-◌, ◌^◌, ℤ, pos, neg_ℤ, ◌+ℤ◌, ◌-ℤ◌, ◌≤ℤ◌, ◌<ℤ◌, unsigned_abs, arith}
use Rattle.std.proofs.lemmas.Int.{ints}
use Rattle.log_enclose.proofs.Exports.{log_down_power_high}
use Rattle.log_laws.specs.Squaring.{log_down}
use Rattle.log_laws.proofs.Exports.{back}
use Rattle.case_types.specs.Arithmetic.Bounds.{one, ratio_low, volume_up, covolume_range, attraction_term_low}
use Rattle.case_types.specs.Arithmetic.Numbers.{numbers_of}
use Rattle.pr_params.proofs.Exports.{log_some}
use Rattle.helmholtz_density.proofs.Terms.{energy_up_is, log_down_of_half}
use Rattle.helmholtz_density.proofs.from_parts.up_of_parts.Goals as goal

pub returns-clause-value : goal.returns-clause-value
returns-clause-value c = λ x y of is.
    let p = numbers_of c.args.params.now.case in
    let mix = c.args.mix.now in
    let logs = c.args.logs.now in
    let v = c.volume.ensures.small in
    let q = c.attraction_term_low.ensures.small in
    let s = c.energy_of_terms.ensures.small in
    let some : 1 ≤ one - y = (let e = is.packing in let r = c.requires.inside in omega (arith, e, r)) in
    let volume : c.volume.result ≡ volume_up p (covolume_range p x).hi y = rw of.covolume at (c.volume.ensures.value y is) in
    let attraction : c.attraction_term_low.result ≡ attraction_term_low p (ratio_low p x) y =
    rw (back mix.ratio (omega (arith, mix.ratio_small)), of.ratio) at (c.attraction_term_low.ensures.value c.args.params.now.case y is) in
    let sum = rw (
      back mix.mixing (omega (arith, mix.mixing_small)),
      back c.volume.result (omega (arith, v)),
      back mix.log_covolume (omega (arith, mix.log_small)),
      back logs.rest_low (omega (arith, logs.rest_low_small)),
      back c.attraction_term_low.result (omega (arith, q)),
    ) at c.energy_of_terms.ensures.value in
    back c.energy_of_terms.result (omega (arith, s)) ∙ sum
    ∙ energy_up_is p x y mix.mixing c.volume.result mix.log_covolume logs.rest_low c.attraction_term_low.result
    of.mixing volume of.log_covolume (is.rest_low ∙ log_some log_down (one - y) some) attraction

pub returns-clause-at_half : goal.returns-clause-at_half
returns-clause-at_half c = λ x of is.
    let mix = c.args.mix.now in
    let logs = c.args.logs.now in
    let h = c.volume.ensures.at_half is in
    let q = c.attraction_term_low.ensures.small in
    let s = c.energy_of_terms.ensures.small in
    let rest : logs.rest_low ≡ neg_ℤ (pos (2 ^ 40)) = is.rest_low ∙ log_down_of_half in
    let sum = rw (
      back mix.mixing (omega (arith, mix.mixing_small)),
      back c.volume.result (omega (arith, h)),
      back mix.log_covolume (omega (arith, mix.log_small)),
      back logs.rest_low (omega (arith, logs.rest_low_small)),
      back c.attraction_term_low.result (omega (arith, q)),
      rest,
    ) at c.energy_of_terms.ensures.sum in
    rw (back c.energy_of_terms.result (omega (arith, s))) (omega (arith, sum, h, q, mix.mixing_small, mix.log_small))

-- terms of which none is deep
not_deep : (m v l k q : ℤ) → unsigned_abs m ≤ 2 ^ 46 → neg_ℤ (pos (2 ^ 47)) ≤ℤ v → unsigned_abs l ≤ 2 ^ 46 → k ≤ℤ pos 0 → unsigned_abs q ≤ 2 ^ 48 - 2 ^ 45 →
    neg_ℤ (pos (2 ^ 49)) <ℤ (m +ℤ v -ℤ l -ℤ k -ℤ q)
not_deep m v l k q hm hv hl hk hq = omega (arith, ints)

pub returns-clause-not_deep : goal.returns-clause-not_deep
returns-clause-not_deep c = λ y is.
    let mix = c.args.mix.now in
    let logs = c.args.logs.now in
    let v = c.volume.ensures.small in
    let q = c.attraction_term_low.ensures.small in
    let s = c.energy_of_terms.ensures.small in
    let packing = is.packing in
    let rest : 1 ≤ one - y = omega (arith, packing, c.requires.inside) in
    let below = log_down_power_high (one - y) 40 40 rest (omega arith) (omega (arith, packing, c.requires.some)) in
    let log : logs.rest_low ≡ log_down (one - y) 40 = is.rest_low ∙ log_some log_down (one - y) rest in
    let sum = rw (
      back mix.mixing (omega (arith, mix.mixing_small)),
      back c.volume.result (omega (arith, v)),
      back mix.log_covolume (omega (arith, mix.log_small)),
      back logs.rest_low (omega (arith, logs.rest_low_small)),
      back c.attraction_term_low.result (omega (arith, q)),
    ) at c.energy_of_terms.ensures.value in
    rw (back c.energy_of_terms.result (omega (arith, s)), sum)
    (not_deep mix.mixing c.volume.result mix.log_covolume logs.rest_low c.attraction_term_low.result mix.mixing_small c.volume.ensures.not_deep mix.log_small
    (rw log (omega (arith, ints, below))) q)
