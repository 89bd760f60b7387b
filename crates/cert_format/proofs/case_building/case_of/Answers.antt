use Rattle.std.proofs.Common.{◌≡◌, ◌∙◌, ℕ, ◌≤◌, List, ap, sym, subst, pos, arith, rules, SFits}
use Rattle.std.specs.Prelude.{nat_le, slice_index}
use Rattle.std.specs.Int.{w128}
use Rattle.std.proofs.lemmas.Int.{to_z-of_z}
use Rattle.log_laws.specs.Sums.{sum_below}
use Rattle.case_types.specs.Ranges.{is_critical_temperature, is_critical_pressure, is_acentric_factor, are_interactions}
use Rattle.cert_lines.specs.Heads.{count_of}
use Rattle.cert_format.specs.Building.{temperature_on, pressure_on, factor_on, feed_on, natural}
use Rattle.cert_format.proofs.CaseFacts.{below_four, temperature_in, pressure_in, factor_in, interactions_in, feed_some, four_sum, feed_sum, feed_limit}
use Rattle.cert_format.proofs.case_building.case_of.Goals as goal

pub total_of-requires : goal.total_of-requires
total_of-requires c =
    subst (λ (zs : List ℕ). sum_below 4 (slice_index zs) ≤ 1048576) (sym c.feed_of-z.ensures) (feed_limit c.args.lines.now c.requires)

pub invariant_of-result : goal.invariant_of-result
invariant_of-result c =
    let d = c.args.lines.now in
    let n = c.components.result in
    let is : n ≡ count_of d = c.components.ensures.value in
    let few : n ≤ 4 = c.components.ensures.four in
    let total : c.total_of.result ≡ sum_below 4 (feed_on d) = c.total_of.ensures ∙ ap (λ (zs : List ℕ). sum_below 4 (slice_index zs)) c.feed_of-z.ensures in
    record {
      some = c.components.ensures.one;
      few = few;
      tc_range = below_four is_critical_temperature (temperature_on d) _ 0 n few c.rows_of.ensures.tc (λ i h. temperature_in d i);
      pc_range = below_four is_critical_pressure (pressure_on d) _ 0 n few c.rows_of.ensures.pc (λ i h. pressure_in d i);
      w_range = below_four is_acentric_factor (factor_on d) _ (pos 0) n few c.rows_of.ensures.w (λ i h. factor_in d i);
      interactions = ap are_interactions c.interactions_of.ensures ∙ interactions_in d;
      live = below_four (nat_le 1) (feed_on d) _ 0 n few c.feed_of-z.ensures (λ i h. feed_some d i (omega (arith, h, is)));
      added = ap (λ (zs : List ℕ). sum_below n (slice_index zs)) c.feed_of-z.ensures ∙ four_sum n (feed_on d) few ∙ ap (λ (m : ℕ). sum_below m (feed_on d)) is ∙ feed_sum d (omega (arith, is, few)) ∙ sym total;
      total_high = omega (arith, total, feed_limit d c.requires);
      t_low = c.natural.ensures.low;
      t_high = c.natural.ensures.high;
      p_low = c.natural-2.ensures.low;
      p_high = c.natural-2.ensures.high;
    }

pub returns : goal.returns
returns c =
    let fits : SFits w128 c.number.result = search rules in
    let fits_too : SFits w128 c.number-2.result = search rules in
    record {
      count = c.components.ensures.value;
      rows = c.rows_of.ensures;
      interactions = c.interactions_of.ensures;
      parts = c.feed_of-z.ensures;
      temperature = c.natural.ensures.value ∙ ap (natural 50000 1500000) (to_z-of_z w128 c.number.result fits ∙ c.number.ensures);
      pressure = c.natural-2.ensures.value ∙ ap (natural 1000 100000000) (to_z-of_z w128 c.number-2.result fits_too ∙ c.number-2.ensures);
      edition = c.edition_of.ensures;
    }
