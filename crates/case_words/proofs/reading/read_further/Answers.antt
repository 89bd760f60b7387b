use Rattle.std.proofs.Common.{◌≡◌, ℕ, ◌+◌, ◌<◌, ◌≤◌, [], length, get_or, drop, arith, sym, ap, ◌∙◌}
use Rattle.std.specs.Prelude.{Err}
use Rattle.std.proofs.lemmas.List.{get_or_default}
use Rattle.std.proofs.lemmas.Result.{err_from_is_err_and}
use Rattle.case_words.specs.Jobs.{with_word, with_words, job_with, job_from}
use Rattle.case_words.specs.Views.{gathered_of, plain_job}
use Rattle.case_words.proofs.Kept.{kept-word}
use Rattle.case_words.proofs.Steps.{words-more, words-stop, words-end, job-fault, job-whole, answers-fault, answers-same}
use Rattle.case_words.proofs.reading.read_further.Goals as goal

pub loop-i-preserved : goal.loop-i-preserved
loop-i-preserved c =
    let inside : c.loop-i.i < length c.args.words.now = omega arith in
    let word : c.bytes.result.now ≡ get_or c.args.words.now c.loop-i.i [] =
    c.bytes.ensures ∙ c.index-words-i.is ∙ get_or_default c.args.words.now c.loop-i.i c.index-words-i.result [] inside in
    let taken = ap (with_word c.args.command (c.loop-i.i + 2) (gathered_of c.loop-i.given)) (sym word) ∙ c.in_ok-take.ensures in
    let place : c.loop-i.i + 2 + 1 ≡ c.loop-i.i + 1 + 2 = omega arith in
    record {
      so_far = c.loop-i.invariant.so_far
          ∙ words-more c.args.command (c.loop-i.i + 2) (gathered_of c.loop-i.given) (gathered_of c.take.new.self) c.args.words.now c.loop-i.i inside taken
          ∙ ap (λ (n : ℕ). with_words c.args.command n (gathered_of c.take.new.self) (drop (c.loop-i.i + 1) c.args.words.now)) place;
      kept = kept-word c.args.command (c.loop-i.i + 2) (gathered_of c.loop-i.given) (gathered_of c.take.new.self) c.bytes.result.now c.in_ok-take.ensures c.loop-i.invariant.kept;
    }

pub returns-in_err-take : goal.returns-in_err-take
returns-in_err-take c =
    let inside : c.loop-i.i < length c.args.words.now = omega arith in
    let word : c.bytes.result.now ≡ get_or c.args.words.now c.loop-i.i [] =
    c.bytes.ensures ∙ c.index-words-i.is ∙ get_or_default c.args.words.now c.loop-i.i c.index-words-i.result [] inside in
    let bad = ap (with_word c.args.command (c.loop-i.i + 2) (gathered_of c.loop-i.given)) (sym word) ∙ c.in_err-take.ensures in
    let p = err_from_is_err_and c.from_residual.result c.from_residual.ensures.1 in
    answers-fault plain_job (job_with c.args.command c.args.words.now) c.from_residual.result c.in_err-take.field-0.0 (p.1 ∙ ap Err p.2)
    (job-fault c.args.command c.args.words.now c.in_err-take.field-0.0
    (c.loop-i.invariant.so_far ∙ words-stop c.args.command (c.loop-i.i + 2) (gathered_of c.loop-i.given) c.args.words.now c.loop-i.i c.in_err-take.field-0.0 inside bad))

pub returns : goal.returns
returns c =
    let end : length c.args.words.now ≤ c.loop-i.i = omega arith in
    answers-same plain_job (job_with c.args.command c.args.words.now) (job_from c.args.command (gathered_of c.loop-i.given)) c.finish.result
    (job-whole c.args.command c.args.words.now (gathered_of c.loop-i.given)
    (c.loop-i.invariant.so_far ∙ words-end c.args.command (c.loop-i.i + 2) (gathered_of c.loop-i.given) c.args.words.now c.loop-i.i end)) c.finish.ensures
