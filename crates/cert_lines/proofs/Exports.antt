-- The one door: what the proofs of crates above may cite.
pub use Rattle.cert_lines.proofs.FewLines.{few_lines}
pub use Rattle.cert_lines.proofs.FirstLine.{at_line, done, more, no_line, no_text, wrong}
pub use Rattle.cert_lines.proofs.HeadText.{lines_again, lines_one, lines_take}
pub use Rattle.cert_lines.proofs.LineLength.{IsFew, IsLong, IsLonger, head_long, long_line, longer}
pub use Rattle.cert_lines.proofs.LineText.{bind_some, int_le_in, int_le_out, some_is}
pub use Rattle.cert_lines.proofs.LinePlaces.{lines_are_found, places_are_found}
pub use Rattle.cert_lines.proofs.Listed.{places_stand}
pub use Rattle.cert_lines.proofs.NumbersOf.{numbers_fit}
pub use Rattle.cert_lines.proofs.OneLine.{is_line}
pub use Rattle.cert_lines.proofs.Shapes.{IsKept, lines_fit, shape_kept}
pub use Rattle.cert_lines.proofs.Suiting.{feed_fits, few, lines_suit, whole_heads_have_all}
pub use Rattle.cert_lines.proofs.WholeHead.{heads_are_read}
pub use Rattle.cert_lines.proofs.Within.{edition_each, numbered_each, paired_each, place_within}
