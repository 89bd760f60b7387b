-- The text of a verdict on a certificate.
use Rattle.std.specs.Prelude.{ℕ, ℤ, List, [], ◌++◌, codes}
use Rattle.std.specs.Fmt.{signed_decimal}
use Rattle.cert_lines.specs.declared.faults.CertFault.{CertFault}
use Rattle.cert_lines.specs.declared.faults.CertFault.TheVariants.{Head, Line, Tree, Cut, Extra, TooLong}
use Rattle.cert_format.specs.declared.verdicts.Verdict.{Verdict}
use Rattle.cert_format.specs.declared.verdicts.Verdict.TheVariants.{Accepted, BadParams, BadBalance, BadEnergy, BadGap, BadLeaf, Refused, ReadFault, Memory}
use Rattle.report_text.specs.Pieces.{line}
use Rattle.report_text.specs.RefusalText.{placed, unread_text, too_long_text}

-- a certificate that is good, with its energy and its gap
abbrev pub accepted_text : ℤ → ℤ → List ℕ
accepted_text u gap = codes "accepted U=" ++ signed_decimal u ++ line (codes " gap=") (signed_decimal gap)

-- a certificate that is refused, and why
abbrev pub refused_certificate : List ℕ → List ℕ
refused_certificate fault = line (codes "refused certificate ") fault

-- a text that isn't that of a certificate
abbrev pub form_fault_text : CertFault → List ℕ
form_fault_text Head = refused_certificate (codes "Head")
form_fault_text (Line n) = refused_certificate (placed (codes "Line") n)
form_fault_text (Tree n) = refused_certificate (placed (codes "Tree") n)
form_fault_text Cut = refused_certificate (codes "Cut")
form_fault_text (Extra n) = refused_certificate (placed (codes "Extra") n)
form_fault_text TooLong = too_long_text

abbrev pub verdict_text : Verdict → List ℕ
verdict_text (Accepted u gap) = accepted_text u gap
verdict_text BadParams = refused_certificate (codes "BadParams")
verdict_text (BadBalance i) = refused_certificate (placed (codes "BadBalance") i)
verdict_text BadEnergy = refused_certificate (codes "BadEnergy")
verdict_text BadGap = refused_certificate (codes "BadGap")
verdict_text (BadLeaf n) = refused_certificate (placed (codes "BadLeaf") n)
verdict_text (Refused fault) = form_fault_text fault
verdict_text ReadFault = unread_text
verdict_text Memory = []
