-- The one door: what the proofs of crates above may cite.
pub use Rattle.pr_params.proofs.Accepted.{e_lo_is, e_hi_is, e_exact, two_exact, lift_small}
pub use Rattle.pr_params.proofs.AllMeans.{AreUsable, HoldEach, AreMeans, all_means, attraction_between}
pub use Rattle.pr_params.proofs.Argument.{positive_between, packing_positive, state_packing, rest_parts}
pub use Rattle.pr_params.proofs.Alpha.{kappa_small}
pub use Rattle.pr_params.proofs.AtComponents.{log_e_of_numbers}
pub use Rattle.pr_params.proofs.AttractionTerm.{state_attraction_least, state_attraction_most}
pub use Rattle.pr_params.proofs.Component.{IsComponent, at_most, int_at_most}
pub use Rattle.pr_params.proofs.Components.{component_at, interaction_at_least, interaction_at_most, interaction_turned, interaction_own}
pub use Rattle.pr_params.proofs.EitherWay.{attraction_turned}
pub use Rattle.pr_params.proofs.EnergyTerms.{energy_by_terms}
pub use Rattle.pr_params.proofs.Lambda.{respelled, instance_root, instance_lambda_most, instance_lambda_least}
pub use Rattle.pr_params.proofs.MeansHold.{holds_means, range_least, range_most, mean_covolume_held, mean_attraction_held, ratio_high_positive, sized, ratio_low_positive}
pub use Rattle.pr_params.proofs.PackingLogs.{not_none, log_size, log_some}
pub use Rattle.pr_params.proofs.ParametersHold.{holds_parameters, bare_attraction_within, alpha_root_within, alpha_large, IsRootIn, pressure_root_in}
pub use Rattle.pr_params.proofs.Pull.{times_scaled, times_minus_one, pull_least, pull_most}
pub use Rattle.pr_params.proofs.Right.{enclosures_right}
pub use Rattle.pr_params.proofs.Sized.{e_ends, scale_split, IsSized, ends_ordered, between_apart, covolume_positive, count_of, each_up_to, mean_attraction_is_fraction}
