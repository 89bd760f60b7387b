use Rattle.std.proofs.Common.{◌≡◌, ◌∙◌, ◌<◌, ◌^◌, ◌+◌, pos, ◌≤ℤ◌, unsigned_abs, ap, subst, sym, ℕ, slice_index, arith}
use Rattle.std.proofs.lemmas.Int.{ints}
use Rattle.log_laws.specs.Between.{Ends}
use Rattle.log_laws.specs.Squaring.{log_down}
use Rattle.log_laws.proofs.Exports.{back, natural_value}
use Rattle.log_laws.specs.Sums.{int_sum_below}
use Rattle.case_types.specs.Arithmetic.Bounds.{mixing_up}
use Rattle.case_types.specs.Arithmetic.Numbers.{numbers_of}
use Rattle.case_types.specs.Arithmetic.Bounds.{box_of}
use Rattle.pr_params.proofs.Exports.{count_of}
use Rattle.helmholtz_density.proofs.from_parts.mix_up.Goals as goal

pub returns : goal.returns
returns c =
    let p = numbers_of c.args.params.now.case in
    let b = c.b_range-b.result in
    let high : pos 0 ≤ℤ b.hi = omega (arith, ints, c.b_range-b.ensures.low, b.ordered) in
    let r : unsigned_abs c.g_lo.result < 2 ^ 127 = omega (arith, ints, c.g_lo.ensures.low, c.g_lo.ensures.high) in
    let lo = back b.lo (omega (arith, b.lo_small)) ∙ ap (λ (e : Ends). e.lo) c.b_range-b.ensures.ends in
    record {
      mixing = back c.entropy.result (omega (arith, c.entropy.ensures.small)) ∙ subst
          (λ (n : ℕ). c.entropy.result ≡ int_sum_below n (λ i. mixing_up (slice_index (box_of c.args.x.now).lo i) (slice_index (box_of c.args.x.now).hi i))) (sym (count_of c.args.params.now.case))
          c.entropy.ensures.value;
      covolume = natural_value b.hi high (omega (arith, b.hi_small)) ∙ ap (λ (e : Ends). e.hi) c.b_range-b.ensures.ends;
      log_covolume =
          back c.log_covolume.result (omega (arith, c.log_covolume.ensures.small)) ∙ c.log_covolume.ensures.value
          ∙ ap (λ z. log_down (unsigned_abs z) (56 + p.lift)) lo;
      ratio = back c.g_lo.result r ∙ c.g_lo.ensures.value;
    }
