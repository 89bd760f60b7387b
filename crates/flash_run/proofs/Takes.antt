-- What an end that comes of a job says of the source.
use Rattle.std.proofs.Common.{◌≡◌, ℕ, ◌+◌, ◌≤◌, List, [], refl, sym, subst, arith}
use Rattle.std.specs.Prelude.{Bool, Result, Ok}
use Rattle.std.specs.declared.option.Option.{Option}
use Rattle.std.specs.declared.option.Option.TheVariants.{None, Some}
use Rattle.case_words.specs.Jobs.{Asked, PlainJob, PlainTp, PlainCert, PlainCheck, PlainEdge}
use Rattle.case_words.specs.declared.faults.WordFault.{WordFault}
use Rattle.cert_check.specs.Streams.{limit}
use Rattle.io_edge.specs.Bytes.{ahead}
use Rattle.io_edge.specs.Reading.{TakesAtMost}
use Rattle.report_text.specs.declared.ends.End.{End}
use Rattle.report_text.specs.declared.ends.End.TheVariants.{Words, Read, TooLong, Table, Case, Flash, Cert, Checked, Edge, Memory}
use Rattle.flash_run.specs.Headline.{table_limit, IsAll}
use Rattle.flash_run.specs.Ends.{TakesWhole, IsJudged, Works, base_of, input_limit}

nothing_ahead : (left : Option (List ℕ)) → left ≡ ahead [] left
nothing_ahead None = refl
nothing_ahead (Some rest) = refl

none : (n : ℕ) (left left' : Option (List ℕ)) → left' ≡ left → TakesAtMost n left left'
none n left left' same =
    record { bytes = []; short = omega arith; taken = subst (λ (o : Option (List ℕ)). left ≡ ahead [] o) (sym same) (nothing_ahead left) }

more : (m n : ℕ) (left left' : Option (List ℕ)) → m ≤ n → TakesAtMost m left left' → TakesAtMost n left left'
more m n left left' h t = record { bytes = t.bytes; short = (let s = t.short in omega (arith, s, h)); taken = t.taken }

pub table_limited : (job : PlainJob) (asked : Asked) → base_of job ≡ Some asked → input_limit (Ok job) ≡ table_limit
table_limited (PlainTp flash) asked base = refl
table_limited (PlainCert flash) asked base = refl
table_limited PlainCheck asked base = absurd cc
table_limited (PlainEdge edge) asked base = refl

pub table_at_most : (job : PlainJob) (asked : Asked) (left left' : Option (List ℕ)) (bytes : List ℕ) → base_of job ≡ Some asked → IsAll left left' bytes
    → TakesAtMost (input_limit (Ok job) + 1) left left'
table_at_most job asked left left' bytes base all =
    let limited = table_limited job asked base in
    record { bytes = bytes; short = (let s = all.short in omega (arith, s, limited)); taken = all.taken }

whole : (job : Result PlainJob WordFault) (left left' : Option (List ℕ)) (end : End) → IsJudged job left left' end → TakesWhole left left'
    → TakesAtMost (input_limit job + 1) left left'
whole job left left' end judged (bytes, all) =
    rw judged.reads.asks (table_at_most judged.reads.plain judged.reads.asked left left' bytes judged.reads.base all)

pub takes_at_most : (job : Result PlainJob WordFault) (e : End) (left left' : Option (List ℕ)) (faults faults' : ℕ) (failed' : Bool)
    → Works job left left' faults faults' failed' e → TakesAtMost (input_limit job + 1) left left'
takes_at_most job (Words fault) left left' faults faults' failed' w = none (input_limit job + 1) left left' w.takes
takes_at_most job Read left left' faults faults' failed' w = more (input_limit job) (input_limit job + 1) left left' (omega arith) w.takes
takes_at_most job TooLong left left' faults faults' failed' w =
    record { bytes = w.takes.bytes; short = (let s = w.takes.counted in omega (arith, s)); taken = w.takes.taken }
takes_at_most job (Table fault) left left' faults faults' failed' w = whole job left left' (Table fault) w.cause w.takes
takes_at_most job (Case fault) left left' faults faults' failed' w = whole job left left' (Case fault) w.cause w.takes
takes_at_most job (Flash params picked tol answer) left left' faults faults' failed' w =
    whole job left left' (Flash params picked tol answer) w.cause w.takes
takes_at_most job (Cert params answer) left left' faults faults' failed' w = whole job left left' (Cert params answer) w.cause w.takes
takes_at_most job (Checked verdict) left left' faults faults' failed' w =
    let asks = w.cause.0.asks in
    let limited : input_limit job ≡ limit = rw asks refl in
    more (limit + 1) (input_limit job + 1) left left' (omega (arith, limited)) w.takes.taken
takes_at_most job (Edge by answer) left left' faults faults' failed' w = whole job left left' (Edge by answer) w.cause w.takes
takes_at_most job Memory left left' faults faults' failed' w = w.takes
