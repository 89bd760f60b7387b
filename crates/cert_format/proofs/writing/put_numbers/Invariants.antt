use Rattle.std.proofs.Common.{take}
use Rattle.dec_text.specs.Appending.{Adds}
use Rattle.cert_lines.specs.Lines.{numbers_text}
use Rattle.cert_format.proofs.writing.put_numbers.Given as goal

abbrev pub invariant-loop-z : goal.invariant-loop-z
invariant-loop-z l = Adds l.fn.out.items l.out.items (numbers_text (take l.z-index l.numbers))
