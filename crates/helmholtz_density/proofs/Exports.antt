-- The one door: what the proofs of crates above may cite.
pub use Rattle.helmholtz_density.proofs.EnergyHigh.{energy_up_holds}
