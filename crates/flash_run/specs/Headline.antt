-- The headline of a run: of every flash and every search, that its answer is certified for what the words ask and the whole table has,
-- and of every certificate that is accepted, that it is certified.
use Rattle.std.specs.Prelude.{◌≡◌, ⊤, ℕ, ◌*◌, ◌^◌, ◌≤◌, List, length, ℤ, pos, ◌≤ℤ◌, Result, Ok, Some}
use Rattle.std.specs.declared.option.Option.{Option}
use Rattle.case_types.specs.declared.answers.Answer.{Answer}
use Rattle.case_types.specs.declared.answers.Outcome.TheVariants.{Closed}
use Rattle.case_types.specs.declared.edges.EdgeAnswer.{EdgeAnswer}
use Rattle.case_types.specs.Energy.Divisions.{Certified, division_of}
use Rattle.case_types.specs.Energy.Printed.{enclosures_in}
use Rattle.case_types.specs.Arithmetic.Numbers.{enclosures_of}
use Rattle.case_words.specs.Jobs.{Asked, PlainJob, PlainTp, PlainCert, PlainEdge}
use Rattle.case_words.specs.Views.{asked_by, edge_asked_by}
use Rattle.case_words.specs.declared.boundaries.By.{By}
use Rattle.case_words.specs.declared.boundaries.EdgeWords.{EdgeWords}
use Rattle.case_words.specs.declared.faults.WordFault.{WordFault}
use Rattle.component_table.specs.declared.cases.Picked.{Picked}
use Rattle.component_table.specs.CsvText.{records_of}
use Rattle.component_table.specs.Picking.{Picks}
use Rattle.component_table.specs.Tables.{Held, table_of}
use Rattle.pr_params.specs.declared.numbers.Params.{Params}
use Rattle.io_edge.specs.Bytes.{ahead, IsSpent}
use Rattle.cert_format.specs.declared.heads.Head.{Head}
use Rattle.cert_format.specs.declared.verdicts.Verdict.{Verdict}
use Rattle.cert_format.specs.declared.verdicts.Verdict.TheVariants.{Accepted}
use Rattle.cert_format.specs.Writing.{certificate_text}
use Rattle.cert_check.specs.Certificates.{IsGoodText}
use Rattle.cert_check.specs.Streams.{IsStreamVerdict}
use Rattle.edge_flash.specs.Ends.{SayKinds}
use Rattle.edge_flash.specs.Places.{boundary, EnclosesIfBracket}
use Rattle.report_text.specs.declared.ends.End.{End}
use Rattle.report_text.specs.declared.ends.End.TheVariants.{Flash, Cert, Checked, Edge}

-- the most bytes of a table
abbrev pub table_limit : ℕ
table_limit = 4194304

-- these bytes, at most the limit, were all that the source had left
pub record IsAll (left left' : Option (List ℕ)) (bytes : List ℕ) : Type 0 where
  pub short : length bytes ≤ table_limit
  pub taken : left ≡ ahead bytes left'
  pub ended : IsSpent left'

-- the case of what is asked, in the table of these bytes
pub record IsCase (asked : Asked) (bytes : List ℕ) (picked : Picked) : Type 0 where
  pub held : Held
  pub table : table_of (records_of bytes) ≡ Ok held
  pub picks : Picks held asked picked

-- the answer is certified for the case of what is asked in the table of these bytes, with the printed pairs, split, energy and
-- gap, at the tolerance and within the budget that are asked
pub record IsCertified (asked : Asked) (bytes : List ℕ) (p : Params) (picked : Picked) (tol : ℕ) (a : Answer) : Type 0 where
  pub case_is : IsCase asked bytes picked
  pub case : p.case ≡ picked.case
  pub tol_is : tol ≡ asked.tol
  pub within : a.units ≤ asked.budget
  pub certified : Certified p.case (enclosures_in p.case.n p.two p.e p.t p.q) (division_of a.split) a.u a.gap
  pub near : a.outcome ≡ Closed → a.gap ≤ℤ pos (3 * tol * 2 ^ 18)

-- the ends that are printed are of their kinds for the case of what is asked in the table of these bytes, each at its place and with its
-- gap; a bracket has one divided end and one whole, within the ends that are asked and at most the width apart
pub record IsBounded (words : EdgeWords) (bytes : List ℕ) (by : By) (answer : EdgeAnswer) : Type 0 where
  pub picked : Picked
  pub case_is : IsCase (asked_by words.base) bytes picked
  pub by_is : by ≡ words.by
  pub kinds : SayKinds picked.case words answer
  pub encloses : EnclosesIfBracket (boundary words.side words.lo words.hi words.width) answer

-- what is printed of a job and of the bytes of a table is certified
abbrev pub Certifies : PlainJob → List ℕ → End → Type 0
Certifies job bytes (Flash params picked tol answer) = (asked : Asked) × (job ≡ PlainTp asked) × IsCertified asked bytes params picked tol answer
Certifies job bytes (Cert params answer) = (asked : Asked) × (picked : Picked) × (job ≡ PlainCert asked) × IsCertified asked bytes params picked asked.tol answer
Certifies job bytes (Edge by answer) = (words : EdgeWords) × (job ≡ PlainEdge (edge_asked_by words)) × IsBounded words bytes by answer
Certifies job bytes _ = ⊤

-- it is certified for what the words ask and for all bytes of the source
pub record IsOfAll (job : Result PlainJob WordFault) (left left' : Option (List ℕ)) (end : End) : Type 0 where
  pub plain : PlainJob
  pub asks : job ≡ Ok plain
  pub bytes : List ℕ
  pub all : IsAll left left' bytes
  pub certified : Certifies plain bytes end

-- every flash and every search is such
abbrev pub Answers : Result PlainJob WordFault → Option (List ℕ) → Option (List ℕ) → End → Type 0
Answers job left left' (Flash params picked tol answer) = IsOfAll job left left' (Flash params picked tol answer)
Answers job left left' (Cert params answer) = IsOfAll job left left' (Cert params answer)
Answers job left left' (Edge by answer) = IsOfAll job left left' (Edge by answer)
Answers job left left' _ = ⊤

-- these bytes are the text of a good certificate with this energy and this gap, and its split is certified with them
pub record IsAccepted (bytes : List ℕ) (u gap : ℤ) : Type 0 where
  pub head : Head
  pub good : IsGoodText bytes head
  pub energy : head.u ≡ u
  pub gap_is : head.gap ≡ gap
  pub certified : Certified head.params.case (enclosures_of head.params.case) (division_of head.split) u gap

-- what is accepted is certified, where the source tells its bytes
abbrev pub Accepts : Option (List ℕ) → End → Type 0
Accepts left (Checked (Accepted u gap)) = (bytes : List ℕ) → left ≡ Some bytes → IsAccepted bytes u gap
Accepts left _ = ⊤

-- what is printed as a certificate has one verdict: it is accepted, with the answer's energy and gap, whatever the outcome
abbrev pub Returns : End → Type 0
Returns (Cert params answer) = (v : Verdict) → IsStreamVerdict (certificate_text params answer) v → v ≡ Accepted answer.u answer.gap
Returns _ = ⊤
