-- The one door: what the proofs of crates above may cite.
pub use Rattle.cert_format.proofs.ReadBack.{heads_are_read_back, heads_say_one_thing, read_back, texts_say_one_thing}
pub use Rattle.cert_format.proofs.LastLetters.{answers_write_trees}
