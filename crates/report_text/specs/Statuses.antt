-- The status of an end.
use Rattle.std.specs.Prelude.{ℕ}
use Rattle.case_types.specs.declared.answers.Outcome.{Outcome}
use Rattle.case_types.specs.declared.answers.Outcome.TheVariants.{Closed, Spent, Grain}
use Rattle.case_types.specs.declared.edges.EdgeAnswer.{EdgeAnswer}
use Rattle.case_types.specs.declared.edges.EdgeAnswer.TheVariants.{Bracket, NoEdge, Stopped, Refused}
use Rattle.cert_lines.specs.declared.faults.CertFault.{CertFault}
use Rattle.cert_lines.specs.declared.faults.CertFault.TheVariants as fault
use Rattle.cert_format.specs.declared.verdicts.Verdict.{Verdict}
use Rattle.cert_format.specs.declared.verdicts.Verdict.TheVariants as verdict
use Rattle.report_text.specs.declared.ends.End.{End}
use Rattle.report_text.specs.declared.ends.End.TheVariants.{Words, Read, TooLong, Table, Case, Flash, Cert, Checked, Edge, Memory}

-- of a flash
abbrev pub status_of_outcome : Outcome → ℕ
status_of_outcome Closed = 0
status_of_outcome Spent = 5
status_of_outcome (Grain cell) = 5

-- of a text that isn't that of a certificate
abbrev pub status_of_fault : CertFault → ℕ
status_of_fault fault.TooLong = 11
status_of_fault _ = 9

-- of a verdict
abbrev pub status_of_verdict : Verdict → ℕ
status_of_verdict (verdict.Accepted u gap) = 0
status_of_verdict (verdict.Refused f) = status_of_fault f
status_of_verdict verdict.ReadFault = 6
status_of_verdict verdict.Memory = 8
status_of_verdict _ = 9

-- of a search for a phase boundary
abbrev pub status_of_edge : EdgeAnswer → ℕ
status_of_edge (Bracket lo hi) = 0
status_of_edge (NoEdge lo hi) = 10
status_of_edge (Stopped at outcome units) = 5
status_of_edge (Refused at fault) = 4

-- of an end, where its text is written
abbrev pub status_of : End → ℕ
status_of (Words fault) = 2
status_of Read = 6
status_of TooLong = 11
status_of (Table fault) = 3
status_of (Case fault) = 4
status_of (Flash params picked tol answer) = status_of_outcome answer.outcome
status_of (Cert params answer) = status_of_outcome answer.outcome
status_of (Checked v) = status_of_verdict v
status_of (Edge by answer) = status_of_edge answer
status_of Memory = 8
