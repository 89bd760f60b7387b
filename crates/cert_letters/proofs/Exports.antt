-- The one door: what the proofs of crates above may cite.
pub use Rattle.cert_letters.proofs.Bounds.{tested_over, lines_bound}
pub use Rattle.cert_letters.proofs.Counting.{letters_count}
pub use Rattle.cert_letters.proofs.Lines.{line_takes, tree_again}
pub use Rattle.cert_letters.proofs.OneTree.{one_tree}
pub use Rattle.cert_letters.proofs.Searched.{searches_write_trees}
pub use Rattle.cert_letters.proofs.Lengths.{tree_length}
