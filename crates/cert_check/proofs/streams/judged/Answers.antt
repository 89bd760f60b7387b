use Rattle.std.proofs.Common.{◌≡◌, ℕ, arith, subst, ◌∙◌, sym, length, take, length-take, List, drop, Some, None}
use Rattle.std.proofs.lemmas.List.{take-append-le, length-take-le}
use Rattle.cert_check.specs.Checking.{Takes}
use Rattle.cert_check.proofs.Running.{goes_on, judges_found, judges_end, judges_past, found_whole, ends_whole}
use Rattle.cert_check.proofs.OfTexts.{not_read_fault, past_no_read_fault}
use Rattle.cert_format.specs.declared.verdicts.Verdict.{Verdict}
use Rattle.cert_format.specs.declared.verdicts.Verdict.TheVariants.{ReadFault}
use Rattle.cert_check.proofs.streams.judged.Goals as goal

some_same : (v w : Verdict) → Some v ≡ Some w → v ≡ w
some_same v w e = cc

pub returns-in-Some-clause-answers : goal.returns-in-Some-clause-answers
returns-in-Some-clause-answers g c =
    let once = c.in-Bytes.ensures.once in
    let lent = simp length-take at c.take.auto.buf in
    let piece : List ℕ = take c.in-Bytes.count c.take.new.buf in
    let count : length piece ≡ c.in-Bytes.count = length-take-le c.in-Bytes.count c.take.new.buf once.fits in
    let same = take-append-le c.in-Bytes.count c.take.new.buf (drop c.min-most.result c.loop-taken.buf) once.fits in
    let step = subst (λ (bytes : List ℕ). Takes c.loop-taken.checker bytes c.take_all.new.self (Some c.in-Some.verdict)) same c.in-Some.ensures in
    judges_found c.loop-taken.taken _ _ _ _ _ c.loop-taken.checker c.take_all.new.self c.in-Some.verdict piece c.loop-taken.invariant.far once.next
    (omega (arith, count, lent, once.fits, c.min-most.ensures, c.loop-taken-test.true)) step (once.faults_stay ∙ c.loop-taken.invariant.no_fault)

pub loop-taken-preserved : goal.loop-taken-preserved
loop-taken-preserved g c =
    let once = c.in-Bytes.ensures.once in
    let lent = simp length-take at c.take.auto.buf in
    let piece : List ℕ = take c.in-Bytes.count c.take.new.buf in
    let count : length piece ≡ c.in-Bytes.count = length-take-le c.in-Bytes.count c.take.new.buf once.fits in
    let same = take-append-le c.in-Bytes.count c.take.new.buf (drop c.min-most.result c.loop-taken.buf) once.fits in
    let step = subst (λ (bytes : List ℕ). Takes c.loop-taken.checker bytes c.take_all.new.self None) same c.in_default.ensures in
    record {
      far = goes_on c.loop-taken.taken c.in-Bytes.count _ _ _ c.loop-taken.checker c.take_all.new.self piece c.loop-taken.invariant.far once.next count step;
      inside = omega (arith, lent, once.fits, c.min-most.ensures, c.loop-taken-test.true);
      no_fault = once.faults_stay ∙ c.loop-taken.invariant.no_fault;
    }

pub returns-in-End-clause-answers : goal.returns-in-End-clause-answers
returns-in-End-clause-answers g c =
    let once = c.in-End.ensures.once in
    judges_end c.loop-taken.taken _ _ _ _ _ c.loop-taken.checker c.end.result c.loop-taken.invariant.far once.spent once.bytes_stay c.loop-taken.invariant.inside c.end.ensures
    (once.faults_stay ∙ c.loop-taken.invariant.no_fault)

pub returns-in-Bytes-take-clause-answers : goal.returns-in-Bytes-take-clause-answers
returns-in-Bytes-take-clause-answers g c =
    let once = c.in-Bytes-take.ensures.once in
    let lent = simp length-take at c.take-2.auto.buf in
    let piece : List ℕ = take c.in-Bytes-take.field-0 c.take-2.new.buf in
    let count : length piece ≡ c.in-Bytes-take.field-0 = length-take-le c.in-Bytes-take.field-0 c.take-2.new.buf once.fits in
    rw c.past_limit.ensures
    (judges_past c.loop-taken.taken _ _ _ _ _ c.loop-taken.checker c.end-in-Bytes-take.result piece c.loop-taken.invariant.far once.next
    (omega (arith, c.loop-taken.invariant.inside, c.loop-taken-test.false)) (omega (arith, count, once.some, once.fits, lent)) c.end-in-Bytes-take.ensures
    (once.faults_stay ∙ c.loop-taken.invariant.no_fault))

pub returns-in-End-take-clause-answers : goal.returns-in-End-take-clause-answers
returns-in-End-take-clause-answers g c =
    let once = c.in-End-take.ensures.once in
    judges_end c.loop-taken.taken _ _ _ _ _ c.loop-taken.checker c.end-in-End-take.result c.loop-taken.invariant.far once.spent once.bytes_stay c.loop-taken.invariant.inside c.end-in-End-take.ensures
    (once.faults_stay ∙ c.loop-taken.invariant.no_fault)

pub returns-in-Some-clause-no_fault : goal.returns-in-Some-clause-no_fault
returns-in-Some-clause-no_fault g c =
    let once = c.in-Bytes.ensures.once in
    let same = take-append-le c.in-Bytes.count c.take.new.buf (drop c.min-most.result c.loop-taken.buf) once.fits in
    let step = subst (λ (bytes : List ℕ). Takes c.loop-taken.checker bytes c.take_all.new.self (Some c.in-Some.verdict)) same c.in-Some.ensures in
    let whole = found_whole c.loop-taken.taken _ _ c.loop-taken.checker c.take_all.new.self c.in-Some.verdict (take c.in-Bytes.count c.take.new.buf) c.loop-taken.invariant.far step in
    λ e. not_read_fault whole.0 c.in-Some.verdict whole.1 (some_same c.in-Some.verdict ReadFault e)

pub returns-in-End-clause-no_fault : goal.returns-in-End-clause-no_fault
returns-in-End-clause-no_fault g c =
    let whole = ends_whole c.loop-taken.taken _ _ c.loop-taken.checker c.end.result c.loop-taken.invariant.far c.end.ensures in
    λ e. not_read_fault whole.0 c.end.result whole.1 (some_same c.end.result ReadFault e)

pub returns-in-Bytes-take-clause-no_fault : goal.returns-in-Bytes-take-clause-no_fault
returns-in-Bytes-take-clause-no_fault g c =
    let whole = ends_whole c.loop-taken.taken _ _ c.loop-taken.checker c.end-in-Bytes-take.result c.loop-taken.invariant.far c.end-in-Bytes-take.ensures in
    λ e. past_no_read_fault whole.0 c.end-in-Bytes-take.result whole.1 (sym c.past_limit.ensures ∙ some_same c.past_limit.result ReadFault e)

pub returns-in-End-take-clause-no_fault : goal.returns-in-End-take-clause-no_fault
returns-in-End-take-clause-no_fault g c =
    let whole = ends_whole c.loop-taken.taken _ _ c.loop-taken.checker c.end-in-End-take.result c.loop-taken.invariant.far c.end-in-End-take.ensures in
    λ e. not_read_fault whole.0 c.end-in-End-take.result whole.1 (some_same c.end-in-End-take.result ReadFault e)
