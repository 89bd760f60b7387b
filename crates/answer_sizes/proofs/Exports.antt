-- The one door: what the proofs of crates above may cite.
pub use Rattle.answer_sizes.proofs.AnswersSmall.{answers_are_small}
pub use Rattle.answer_sizes.proofs.AnySurface.{gap_positive, upper_small}
