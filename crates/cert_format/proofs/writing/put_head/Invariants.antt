use Rattle.std.proofs.Common.{take, map}
use Rattle.dec_text.specs.Appending.{Adds}
use Rattle.cert_lines.specs.HeadTexts.{lines_text}
use Rattle.cert_lines.specs.Places.{places}
use Rattle.cert_format.specs.Heads.{line_of, shape_of}
use Rattle.cert_format.proofs.writing.put_head.Given as goal

abbrev pub invariant-loop-at : goal.invariant-loop-at
invariant-loop-at l = Adds l.fn.out.items l.out.items (lines_text (map (line_of l.head) (take l.at (places (shape_of l.head)))))
