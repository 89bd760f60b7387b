-- The one door: what the proofs of crates above may cite.
pub use Rattle.split_energies.proofs.ExactShares.{no_share, share_same}
pub use Rattle.split_energies.proofs.FeedPhase.{feed_part_of, feed_parts_sum, feed_box_is, feed_has_parts}
pub use Rattle.split_energies.proofs.OnePhase.{feed_up, one_phase_energy, one_phase_divides}
pub use Rattle.split_energies.proofs.Order.{last_or_before, no_less, at_most, through, less_through}
pub use Rattle.split_energies.proofs.ScanSteps.{IsLowest, lowest_is, scan_inside, up_of, half_inside}
