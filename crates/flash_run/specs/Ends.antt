-- What an end says of its cause and of the source.
use Rattle.std.specs.Prelude.{◌≡◌, ◌≢◌, ⊤, ℕ, ℤ, Bool, true, Result, ◌+◌, ◌⊎◌, List, Ok, Err, Some, None}
use Rattle.std.specs.declared.option.Option.{Option}
use Rattle.case_types.specs.declared.cases.ParamFault.{ParamFault}
use Rattle.case_types.specs.Arithmetic.Faults.{fault_of}
use Rattle.case_types.specs.Arithmetic.Numbers.{numbers_of}
use Rattle.case_types.specs.declared.answers.Answer.{Answer}
use Rattle.case_types.specs.declared.edges.EdgeAnswer.{EdgeAnswer}
use Rattle.case_words.specs.Jobs.{Asked, PlainJob, PlainTp, PlainCert, PlainEdge, PlainCheck}
use Rattle.case_words.specs.Views.{asked_by, edge_asked_by}
use Rattle.case_words.specs.declared.boundaries.By.{By}
use Rattle.case_words.specs.declared.boundaries.EdgeWords.{EdgeWords}
use Rattle.case_words.specs.declared.faults.WordFault.{WordFault}
use Rattle.component_table.specs.declared.cases.CaseFault.{CaseFault}
use Rattle.component_table.specs.declared.cases.CaseFault.TheVariants.{Param}
use Rattle.component_table.specs.declared.cases.Picked.{Picked}
use Rattle.component_table.specs.CsvText.{records_of}
use Rattle.component_table.specs.Picking.{Refuses}
use Rattle.component_table.specs.Tables.{Held, table_of}
use Rattle.edge_flash.specs.Ends.{SaysAt}
use Rattle.edge_flash.specs.PengRobinson.{IsPrWalk}
use Rattle.edge_flash.specs.Places.{boundary, Bisected}
use Rattle.energy_surface.specs.Lawful.{IsLawful}
use Rattle.pr_surface.specs.PengRobinson.{surface_of}
use Rattle.pr_params.specs.declared.numbers.Params.{Params}
use Rattle.cert_lines.specs.declared.faults.CertFault.TheVariants.{TooLong as LongText}
use Rattle.cert_format.specs.declared.verdicts.Verdict.{Verdict}
use Rattle.cert_format.specs.declared.verdicts.Verdict.TheVariants.{Accepted, Refused, ReadFault, Memory as NoMemory}
use Rattle.cert_check.specs.Streams.{limit, IsStreamVerdict}
use Rattle.io_edge.specs.Bytes.{IsSpent}
use Rattle.io_edge.specs.Causes.{CountsFault}
use Rattle.io_edge.specs.Reading.{TakesAtMost, TakesExactly}
use Rattle.report_text.specs.declared.ends.End.{End}
use Rattle.report_text.specs.declared.ends.End.TheVariants.{Words, Read, TooLong, Table, Case, Flash, Cert, Checked, Edge, Memory}
use Rattle.flash_run.specs.Headline.{table_limit, IsAll, IsCase, Answers, Accepts, Certifies, Returns}

-- ---- the source
-- one fault of the source was counted at Read, and none where words, table, case or certificate were judged
abbrev pub CountsRead : End → ℕ → ℕ → Type 0
CountsRead (Words fault) faults faults' = faults' ≡ faults
CountsRead Read faults faults' = CountsFault faults faults'
CountsRead TooLong faults faults' = faults' ≡ faults
CountsRead (Table fault) faults faults' = faults' ≡ faults
CountsRead (Case fault) faults faults' = faults' ≡ faults
CountsRead (Flash params picked tol answer) faults faults' = faults' ≡ faults
CountsRead (Cert params answer) faults faults' = faults' ≡ faults
CountsRead (Checked verdict) faults faults' = faults' ≡ faults
CountsRead (Edge by answer) faults faults' = faults' ≡ faults
CountsRead Memory faults faults' = (faults' ≡ faults) ⊎ CountsFault faults faults'

-- the source was read to its end
abbrev pub TakesWhole : Option (List ℕ) → Option (List ℕ) → Type 0
TakesWhole left left' = (bytes : List ℕ) × IsAll left left' bytes

-- the most bytes of the input of a job: of a table, or of a certificate
abbrev pub input_limit : Result PlainJob WordFault → ℕ
input_limit (Err fault) = 0
input_limit (Ok (PlainTp asked)) = table_limit
input_limit (Ok (PlainCert asked)) = table_limit
input_limit (Ok PlainCheck) = limit
input_limit (Ok (PlainEdge asked)) = table_limit

-- a certificate that is accepted was read to its end, and of another at most one byte past the limit was taken
pub record TakesCertificate (verdict : Verdict) (left left' : Option (List ℕ)) : Type 0 where
  pub taken : TakesAtMost (limit + 1) left left'
  pub ended : (u gap : ℤ) → verdict ≡ Accepted u gap → IsSpent left'

-- nothing is taken where words are refused, and the whole table before it or its case are judged; the next byte past the
-- limit was taken exactly at TooLong, and else only where memory was wanting or a certificate ended at the limit may it be
abbrev pub Takes : Result PlainJob WordFault → End → Option (List ℕ) → Option (List ℕ) → Type 0
Takes job (Words fault) left left' = left' ≡ left
Takes job Read left left' = TakesAtMost (input_limit job) left left'
Takes job TooLong left left' = TakesExactly (input_limit job + 1) left left'
Takes job (Table fault) left left' = TakesWhole left left'
Takes job (Case fault) left left' = TakesWhole left left'
Takes job (Flash params picked tol answer) left left' = TakesWhole left left'
Takes job (Cert params answer) left left' = TakesWhole left left'
Takes job (Checked verdict) left left' = TakesCertificate verdict left left'
Takes job (Edge by answer) left left' = TakesWhole left left'
Takes job Memory left left' = TakesAtMost (input_limit job + 1) left left'

-- ---- the cause
-- the first name that has no component in the table of these bytes
pub record IsRefusedName (asked : Asked) (bytes : List ℕ) (fault : CaseFault) : Type 0 where
  pub held : Held
  pub table : table_of (records_of bytes) ≡ Ok held
  pub refused : Refuses held asked fault

-- the range that the parameters break first
pub record IsRefusedRange (asked : Asked) (bytes : List ℕ) (fault : CaseFault) : Type 0 where
  pub picked : Picked
  pub case_is : IsCase asked bytes picked
  pub range : ParamFault
  pub is : fault ≡ Param range
  pub refused : fault_of picked.case ≡ Some range

-- the list of work of an answer is lawful
abbrev pub IsLawfulFor : Asked → Params → Answer → Type 0
IsLawfulFor asked params answer = IsLawful (surface_of (numbers_of params.case)) params.case asked.tol asked.budget answer

-- the answer of a search is that of its definition, each place that it asked being said of by a flash and by a walk over one phase
pub record IsSearched (words : EdgeWords) (bytes : List ℕ) (by : By) (answer : EdgeAnswer) : Type 0 where
  pub picked : Picked
  pub case_is : IsCase (asked_by words.base) bytes picked
  pub by_is : by ≡ words.by
  pub searched : Bisected (SaysAt (λ c. surface_of (numbers_of c)) IsPrWalk picked.case words) (boundary words.side words.lo words.hi words.width) answer

-- the job is one flash
abbrev pub IsFlash : PlainJob → Type 0
IsFlash (PlainTp asked) = ⊤
IsFlash (PlainCert asked) = ⊤
IsFlash PlainCheck = ⊥
IsFlash (PlainEdge asked) = ⊥

-- what comes of a job, whose flash is asked of this, and of the bytes of a table; a search tells a range that is broken with its place;
-- want of memory has no cause here
abbrev pub Judges : PlainJob → Asked → List ℕ → End → Type 0
Judges job asked bytes (Words fault) = ⊥
Judges job asked bytes Read = ⊥
Judges job asked bytes TooLong = ⊥
Judges job asked bytes (Table fault) = table_of (records_of bytes) ≡ Err fault
Judges job asked bytes (Case fault) = IsRefusedName asked bytes fault ⊎ (IsFlash job × IsRefusedRange asked bytes fault)
Judges job asked bytes (Flash params picked tol answer) = (job ≡ PlainTp asked) × IsLawfulFor asked params answer
Judges job asked bytes (Cert params answer) = (job ≡ PlainCert asked) × IsLawfulFor asked params answer
Judges job asked bytes (Checked verdict) = ⊥
Judges job asked bytes (Edge by answer) = (words : EdgeWords) × (job ≡ PlainEdge (edge_asked_by words)) × IsSearched words bytes by answer
Judges job asked bytes Memory = ⊤

-- the end of a job and of the bytes of a table, with what is promised of it
pub record IsWorked (job : PlainJob) (asked : Asked) (bytes : List ℕ) (end : End) : Type 0 where
  pub certified : Certifies job bytes end
  pub returned : Returns end
  pub cause : Judges job asked bytes end

-- what the flash of a job is asked of, where it reads a table: of a search, that at its lower end
abbrev pub base_of : PlainJob → Option Asked
base_of (PlainTp asked) = Some asked
base_of (PlainCert asked) = Some asked
base_of PlainCheck = None
base_of (PlainEdge asked) = Some asked.base

-- the job reads a table
pub record ReadsTable (job : Result PlainJob WordFault) : Type 0 where
  pub plain : PlainJob
  pub asked : Asked
  pub asks : job ≡ Ok plain
  pub base : base_of plain ≡ Some asked

-- what comes of such a job and of all bytes of the source
pub record IsJudged (job : Result PlainJob WordFault) (left left' : Option (List ℕ)) (end : End) : Type 0 where
  pub reads : ReadsTable job
  pub bytes : List ℕ
  pub all : IsAll left left' bytes
  pub judged : Judges reads.plain reads.asked bytes end

-- the verdict on the certificate that the source has left, where it tells its bytes
pub record IsChecked (job : Result PlainJob WordFault) (left : Option (List ℕ)) (verdict : Verdict) : Type 0 where
  pub asks : job ≡ Ok PlainCheck
  pub told : (bytes : List ℕ) → left ≡ Some bytes → IsStreamVerdict bytes verdict

-- the end that a verdict comes to
abbrev pub end_of : Verdict → End
end_of ReadFault = Read
end_of NoMemory = Memory
end_of (Refused LongText) = TooLong
end_of verdict = Checked verdict

-- why a run comes to this end
abbrev pub Comes : Result PlainJob WordFault → Option (List ℕ) → Option (List ℕ) → End → Type 0
Comes job left left' (Words fault) = job ≡ Err fault
Comes job left left' Read = ReadsTable job ⊎ (job ≡ Ok PlainCheck)
Comes job left left' TooLong = ReadsTable job ⊎ IsChecked job left (Refused LongText)
Comes job left left' (Table fault) = IsJudged job left left' (Table fault)
Comes job left left' (Case fault) = IsJudged job left left' (Case fault)
Comes job left left' (Flash params picked tol answer) = IsJudged job left left' (Flash params picked tol answer)
Comes job left left' (Cert params answer) = IsJudged job left left' (Cert params answer)
Comes job left left' (Checked verdict) = IsChecked job left verdict × (end_of verdict ≡ Checked verdict)
Comes job left left' (Edge by answer) = IsJudged job left left' (Edge by answer)
Comes job left left' Memory = ⊤

-- ---- the work
-- what the work of a job came to; memory is wanting only where a table is read, as a certificate is judged without any
pub record Works (job : Result PlainJob WordFault) (left left' : Option (List ℕ)) (faults faults' : ℕ) (failed' : Bool) (end : End) : Type 0 where
  pub headline : Answers job left left' end
  pub accepted : Accepts left end
  pub returned : Returns end
  pub takes : Takes job end left left'
  pub reads : CountsRead end faults faults'
  pub last_take : end ≡ Read → failed' ≡ true
  pub last_fault : faults' ≢ faults → failed' ≡ true
  pub cause : Comes job left left' end
  pub memory : end ≡ Memory → ReadsTable job
