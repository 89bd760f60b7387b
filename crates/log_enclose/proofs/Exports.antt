-- The one door: what the proofs of crates above may cite.
pub use Rattle.log_enclose.proofs.Bounds.{log_down_at_least, log_up_at_most, log_down_power_low, log_down_power_high, log_up_power_low, log_up_power_high}
pub use Rattle.log_enclose.proofs.Constants.{holds_log_e_ends, printed_log_e}
