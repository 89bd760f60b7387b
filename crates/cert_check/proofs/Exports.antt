-- The one door: what the proofs of crates above may cite.
pub use Rattle.cert_check.proofs.Accepted.{accepted_is_good}
pub use Rattle.cert_check.proofs.Certifies.{good_certifies}
pub use Rattle.cert_check.proofs.Converse.{good_is_accepted}
pub use Rattle.cert_check.proofs.OfAnswers.{answers_are_accepted}
