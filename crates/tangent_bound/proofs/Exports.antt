-- The one door: what the proofs of crates above may cite.
pub use Rattle.tangent_bound.proofs.EnergyLow.{energy_low_holds}
pub use Rattle.tangent_bound.proofs.SlopeLow.{slope_low_holds}
pub use Rattle.tangent_bound.proofs.MixForms.{form-same}
