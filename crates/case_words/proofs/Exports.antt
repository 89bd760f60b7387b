-- The one door: what the proofs of crates above may cite.
pub use Rattle.case_words.proofs.Kept.{when_good, if_good, unless_good, not_refused, same_good, name-long}
pub use Rattle.case_words.proofs.Steps.{answers-same, answers-fault}
pub use Rattle.case_words.proofs.FirstKey.{first_key}
