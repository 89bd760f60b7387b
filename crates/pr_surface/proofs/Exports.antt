-- The one door: what the proofs of crates above may cite.
pub use Rattle.pr_surface.proofs.SurfaceBound.{numbers_bound, lows_certify, uppers_certify}
pub use Rattle.pr_surface.proofs.Certificates.{certificates_certify}
