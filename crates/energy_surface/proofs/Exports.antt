-- The one door: what the proofs of crates above may cite.
pub use Rattle.energy_surface.proofs.Certify.{lows_certify, uppers_certify}
pub use Rattle.energy_surface.proofs.Walks.{each_over_less, leaf_over, tree_over, cuts_off, grain_of_hand}
pub use Rattle.energy_surface.proofs.WorkLaws.{closed_is_near}
