-- The one door: what the proofs of crates above may cite.
-- ---- what operations answer, and that it is a form
pub use Rattle.slope_form.proofs.Capped.{IsCapped, capped_some, capped_from, both_some, form_from_some, each_some, entry_is}
pub use Rattle.slope_form.proofs.Spans.{product_span, quotient_span, sum_some, difference_some, product_some, quotient_some}
pub use Rattle.slope_form.proofs.Meanings.{IsForm}
pub use Rattle.slope_form.proofs.ResultForms.{constant_is_form, sum_is_form, difference_is_form, product_is_form, quotient_is_form, log_is_form}
pub use Rattle.slope_form.proofs.Kept.{is_form, if_some}
-- ---- what forms mean
pub use Rattle.slope_form.proofs.Spans.{between_bits, slope_times, times_slope, number_times, slope_over, number_over, positive_between, in_added, in_scaled, fraction_in, in_fraction}
pub use Rattle.slope_form.proofs.Meanings.{moves_of, sloped, same_ends, in_same, constant_means}
pub use Rattle.slope_form.proofs.SumMeanings.{sum_sloped, sum_means, difference_sloped, difference_means}
pub use Rattle.slope_form.proofs.ProductMeanings.{product_means, fraction_product_means}
pub use Rattle.slope_form.proofs.QuotientMeanings.{quotient_means}
pub use Rattle.slope_form.proofs.LogMeanings.{log_in, log_means}
pub use Rattle.slope_form.proofs.Bends.{x_log_x_kept}
pub use Rattle.slope_form.proofs.Lows.{low_holds}
-- ---- how log sums move
pub use Rattle.slope_form.proofs.Slopes.{Rises, Moves, Carries, AreOrdered, total, turned_ends, all_turned, all_added, rises_as, moves_from, moves_most, moves_wider, rises_least}
pub use Rattle.slope_form.proofs.LogSlopes.{mean_moves}
-- ---- linear functions, fractions and the packing fraction, x log x, means
pub use Rattle.slope_form.proofs.LinearSlopes.{free_slope, free_ends, exact_moves, linear_moves}
pub use Rattle.slope_form.proofs.Coordinates.{unit_ends, no_ends, unit_at, unit_ends_at, coordinate_moves, mixing_sloped, packing_form, packing_means, same_place, other_place, later_place}
pub use Rattle.slope_form.proofs.WeightedSlopes.{weighted_moves}
pub use Rattle.slope_form.proofs.BendSlopes.{bends_move}
pub use Rattle.slope_form.proofs.MeanSlopes.{moves_same, mean_moves_by, pair_moves_by, mean_between}
-- ---- the steps of a point
pub use Rattle.slope_form.proofs.PointSteps.{gap, gap_same, gap_above, gap_below, gaps_none, step_of, steps_of, free_step, packing_same}
