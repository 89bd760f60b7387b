-- The one door: what the proofs of crates above may cite.
pub use Rattle.dec_text.proofs.Regroup.{adds-as, adds-nothing, adds-then}
pub use Rattle.dec_text.proofs.WholeText.{whole_again, whole_takes}
