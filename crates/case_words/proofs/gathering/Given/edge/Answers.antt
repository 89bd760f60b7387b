use Rattle.std.proofs.Common.{ap, ◌∙◌}
use Rattle.std.specs.Prelude.{Ok, Err}
use Rattle.std.proofs.lemmas.Result.{err_from_is_err_and}
use Rattle.case_words.specs.Jobs.{edge_of}
use Rattle.case_words.specs.Views.{gathered_of, asked_by, edge_asked_by}
use Rattle.case_words.proofs.Asking.{edge-without_fixed, edge-without_lo, edge-without_hi, edge-without_width, edge-there}
use Rattle.case_words.proofs.Steps.{answers-fault}
use Rattle.case_words.proofs.gathering.Given.edge.Goals as goal

pub returns-in_err-fixed : goal.returns-in_err-fixed
returns-in_err-fixed c =
    let p = err_from_is_err_and c.from_residual.result c.from_residual.ensures.1 in
    answers-fault edge_asked_by (edge_of c.args.by c.args.side (gathered_of c.args.self)) c.from_residual.result c.in_err-fixed.field-0.0 (p.1 ∙ ap Err p.2)
    (edge-without_fixed c.args.by c.args.side (gathered_of c.args.self) c.in_err-fixed.field-0.0 c.in_err-fixed.ensures)

pub returns-in_default : goal.returns-in_default
returns-in_default c =
    edge-without_lo c.args.by c.args.side (gathered_of c.args.self) c.in_ok-fixed.fixed c.in_ok-fixed.ensures c.in_default.is

pub returns-in_default-hi : goal.returns-in_default-hi
returns-in_default-hi c =
    edge-without_hi c.args.by c.args.side (gathered_of c.args.self) c.in_ok-fixed.fixed c.in-Some.lo c.in_ok-fixed.ensures c.in-Some.is c.in_default-hi.is

pub returns-in_default-width : goal.returns-in_default-width
returns-in_default-width c =
    edge-without_width c.args.by c.args.side (gathered_of c.args.self) c.in_ok-fixed.fixed c.in-Some.lo c.in-Some-hi.hi c.in_ok-fixed.ensures c.in-Some.is c.in-Some-hi.is
    c.in_default-width.is

pub returns-in_err-base : goal.returns-in_err-base
returns-in_err-base c =
    let p = err_from_is_err_and c.from_residual-in_err-base.result c.from_residual-in_err-base.ensures.1 in
    answers-fault edge_asked_by (edge_of c.args.by c.args.side (gathered_of c.args.self)) c.from_residual-in_err-base.result c.in_err-base.field-0.0 (p.1 ∙ ap Err p.2)
    (edge-there c.args.by c.args.side (gathered_of c.args.self) c.in_ok-fixed.fixed c.in-Some.lo c.in-Some-hi.hi c.in-Some-width.width (Err c.in_err-base.field-0.0)
    c.in_ok-fixed.ensures c.in-Some.is c.in-Some-hi.is c.in-Some-width.is c.in_err-base.ensures.value)

pub returns : goal.returns
returns c =
    edge-there c.args.by c.args.side (gathered_of c.args.self) c.in_ok-fixed.fixed c.in-Some.lo c.in-Some-hi.hi c.in-Some-width.width (Ok (asked_by c.in_ok-base.base))
    c.in_ok-fixed.ensures c.in-Some.is c.in-Some-hi.is c.in-Some-width.is c.in_ok-base.ensures.value
