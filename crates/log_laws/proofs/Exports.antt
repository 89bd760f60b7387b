-- The one door: what the proofs of crates above may cite. Above this crate nobody opens AtLeast and AtMost.

-- ---- whole numbers: ring laws, floors and ceilings, powers, machine numbers of 128 bits
pub use Rattle.log_laws.proofs.Ring.{up-mul, down-mul, mul_assoc_ℤ, mul-add_ℤ, add-mul_ℤ, neg-mul, mul-neg, mul_right_comm_ℤ, swap_scales, scale_scale, scale_turned, scaled_same}
pub use Rattle.log_laws.proofs.Ring.{mul-le_ℤ, le_of_mul-le_ℤ, between, ≤ℤ_trans, add_above, add_below, corner_low, corner_high, product_low, product_high}
pub use Rattle.log_laws.proofs.Ring.{floor_over-le, lt-floor_over, le-ceil_over, ceil_over-pos}
pub use Rattle.log_laws.proofs.Signs.{no_less, either_sign, products_up, products_down, factor_up, cancel, scale_less, unscale_less, unscale_same}
pub use Rattle.log_laws.proofs.Floors.{scaled_quotient, floor_shifted, floors_fall, floors_rise}
pub use Rattle.log_laws.proofs.Ceilings.{le-ceiling, floor-le-ceiling, ceiling_at_most}
pub use Rattle.log_laws.proofs.Powers.{pow-mul, pow_pos_of, one-pow, le_of_pow-le}
pub use Rattle.log_laws.proofs.Wide.{back}
pub use Rattle.log_laws.proofs.Signed.{natural_fits, natural_value, difference_read, natural_sum_read, opposite_read, product_at_most, product_read, power_read, natural, natural_product, abs_within, by_natural}
pub use Rattle.log_laws.proofs.Indexed.{sum_below-add, sum_below-none, sum_below-scaled, sum_below-scaled_same, sum_below-less, le-sum_below}
-- ---- identities of polynomials, by computing
pub use Rattle.log_laws.proofs.Polynomials.{Expression, known, unknown, added, times, minus, identity}
-- ---- sums, least and greatest values, and tests of all, as loops make them
pub use Rattle.log_laws.proofs.Adding.{sum_below-more, sum_below-fewer, sum-none, sum-more, sum-next, sum-read}
pub use Rattle.log_laws.proofs.IntSums.{sum-same, sum-neg, sum-added, sum-scaled, sum-times, sum-nothing, sum-swapped, sum-whole, sum-order, sum-order_scaled, sum_up, summand, times_nothing}
pub use Rattle.log_laws.proofs.Adding.{least-none, least-more, greatest-none, greatest-more, greatest-next, greatest-first, least-le, le-greatest}
pub use Rattle.log_laws.proofs.Adding.{and_true, and_false, all_below-at, all_below-from, all_below-less, all_below-more, all_below-same, all_below-fails, four_small, each_of_four_small}
pub use Rattle.log_laws.proofs.Adding.{sum_below-same, greatest_below-same}
-- ---- linear forms of fractions that add up to 1
pub use Rattle.log_laws.proofs.Linear.{greater_end-high, affine_high-same, affine_low-same, ArePartsBetween, affine_above, affine_below}
pub use Rattle.log_laws.proofs.Listed.{get_or-list_below, length-list_below, list_below-same}
-- ---- the value of a fraction as a difference of whole numbers over a third
pub use Rattle.log_laws.proofs.Parts.{IsParts, product_pos, parts_self, parts_ratio, parts_positive, parts_inverse, parts_one, parts_negated, parts_sum, parts_sum_at, parts_product, parts_respelled, parts_of_same}
pub use Rattle.log_laws.proofs.Parts.{same_of_parts, at_most_of_parts, parts_of_at_most}
pub use Rattle.log_laws.proofs.Terms.{IsQuotient, quotient_of_parts, parts_quotient, by_ratio, order_of_ratios}
-- ---- bounds of log sums
pub use Rattle.log_laws.proofs.Sums.{any_denominator, at_least_adds, at_least_scales, at_least_lowers}
pub use Rattle.log_laws.proofs.Opposite.{at_most_is_opposite, at_least_powers, at_most_powers, at_least_powers_over, at_most_powers_over}
pub use Rattle.log_laws.proofs.Weighing.{at_least_weighs}
pub use Rattle.log_laws.proofs.Indexed.{at_least_sums, parts_sum_below}
pub use Rattle.log_laws.proofs.Terms.{over_den, lowered, at_least_adds_at, constant_at_least, at_least_constant, dens_of}
pub use Rattle.log_laws.proofs.Uppers.{at_most_scales, at_most_raises, heightened, at_most_adds_at, constant_at_most}
-- ---- single logarithms, their quotients, and the logarithm of e
pub use Rattle.log_laws.proofs.Arguments.{at_least_takes_larger, at_least_multiplies, at_least_merges}
pub use Rattle.log_laws.proofs.Terms.{fraction_one, quotient_at_least, minus_log, minus_log_quotient, bounds_ordered}
pub use Rattle.log_laws.proofs.Euler.{log_of_one_more, log_of_one_less}
pub use Rattle.log_laws.proofs.LogsOfE.{log_of_one_and}
-- ---- another spelling of a log sum
pub use Rattle.log_laws.proofs.Steps.{term}
pub use Rattle.log_laws.proofs.Terms.{IsSameTerm, AreSame, IsSameSum, same_argument_of, at_least-same}
pub use Rattle.log_laws.proofs.Spellings.{fraction_is, product-negated, product_of_comm, difference_turned, opposite-opposite, opposite-added, scaled-opposite, negated-scaled}
-- ---- differences v - u of log sums, and of means of fractions
pub use Rattle.log_laws.proofs.FractionDifferences.{difference_den, negated-difference, difference-restored}
pub use Rattle.log_laws.proofs.ChangeRules.{sum_rule, product_rule, turned_product_rule, quotient_rule, cancel_rule, turn_rule, log_rule}
pub use Rattle.log_laws.proofs.MeanChanges.{sum_fraction, mean, mean_fraction, change_of_mean, pair_mean, row_sum, change_of_pairs}
pub use Rattle.log_laws.proofs.MeanSpellings.{sum_as, mean_lifted, pair_lifted, row_factored, row_joined, either, either_is, either_turned, mean_either, pairs_either}
pub use Rattle.log_laws.proofs.ChangeSums.{changes_at_least, opposites}
-- ---- products of powers, term by term: for identities of log sums that no law above has
pub use Rattle.log_laws.proofs.Order.{IsReordered, at_least_one-reordered, reordered-append, to_front, to_back, turned}
pub use Rattle.log_laws.proofs.Order.IsReordered.{same, next, swap, chain}
pub use Rattle.log_laws.proofs.Steps.{up-positive, at_least_one-merge, at_least_one-same_factor, at_least_one-same_argument, at_least_one-product, at_least_one-factors}
pub use Rattle.log_laws.proofs.Terms.{at_least_one-inverse, at_least_one-drop_one}
pub use Rattle.log_laws.proofs.Dropping.{at_least_one-drop_zero, at_least_one-power_of_two}
pub use Rattle.log_laws.proofs.Sums.{den_of}
