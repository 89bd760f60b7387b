use Rattle.std.proofs.Common.{ap, ◌∙◌}
use Rattle.std.specs.Prelude.{Ok, Err}
use Rattle.std.proofs.lemmas.Result.{err_from_is_err_and}
use Rattle.case_words.specs.declared.commands.Command.{Command}
use Rattle.case_words.specs.Jobs.{job_from}
use Rattle.case_words.specs.Views.{gathered_of, asked_by, edge_asked_by, plain_job}
use Rattle.case_words.proofs.Steps.{job-tp, job-cert, job-check, job-edge, answers-fault}
use Rattle.case_words.proofs.gathering.Given.finish.Goals as goal

pub returns-in_err-flash-in-Tp : goal.returns-in_err-flash-in-Tp
returns-in_err-flash-in-Tp c =
    let p = err_from_is_err_and c.from_residual.result c.from_residual.ensures.1 in
    answers-fault plain_job (job_from c.args.command (gathered_of c.args.self)) c.from_residual.result c.in_err-flash-in-Tp.field-0.0 (p.1 ∙ ap Err p.2)
    (ap (λ (k : Command). job_from k (gathered_of c.args.self)) c.in-Tp.is ∙ job-tp (gathered_of c.args.self) (Err c.in_err-flash-in-Tp.field-0.0) c.in_err-flash-in-Tp.ensures)

pub returns-in_ok-flash-in-Tp : goal.returns-in_ok-flash-in-Tp
returns-in_ok-flash-in-Tp c =
    ap (λ (k : Command). job_from k (gathered_of c.args.self)) c.in-Tp.is ∙ job-tp (gathered_of c.args.self) (Ok (asked_by c.in_ok-flash-in-Tp.field-0)) c.in_ok-flash-in-Tp.ensures

pub returns-in_err-flash-in-Cert : goal.returns-in_err-flash-in-Cert
returns-in_err-flash-in-Cert c =
    let p = err_from_is_err_and c.from_residual-in_err-flash-in-Cert.result c.from_residual-in_err-flash-in-Cert.ensures.1 in
    answers-fault plain_job (job_from c.args.command (gathered_of c.args.self)) c.from_residual-in_err-flash-in-Cert.result c.in_err-flash-in-Cert.field-0.0 (p.1 ∙ ap Err p.2)
    (ap (λ (k : Command). job_from k (gathered_of c.args.self)) c.in-Cert.is ∙ job-cert (gathered_of c.args.self) (Err c.in_err-flash-in-Cert.field-0.0) c.in_err-flash-in-Cert.ensures)

pub returns-in_ok-flash-in-Cert : goal.returns-in_ok-flash-in-Cert
returns-in_ok-flash-in-Cert c =
    ap (λ (k : Command). job_from k (gathered_of c.args.self)) c.in-Cert.is ∙ job-cert (gathered_of c.args.self) (Ok (asked_by c.in_ok-flash-in-Cert.field-0)) c.in_ok-flash-in-Cert.ensures

pub returns-in_err-edge-in-Edge : goal.returns-in_err-edge-in-Edge
returns-in_err-edge-in-Edge c =
    let p = err_from_is_err_and c.from_residual-in_err-edge-in-Edge.result c.from_residual-in_err-edge-in-Edge.ensures.1 in
    answers-fault plain_job (job_from c.args.command (gathered_of c.args.self)) c.from_residual-in_err-edge-in-Edge.result c.in_err-edge-in-Edge.field-0.0 (p.1 ∙ ap Err p.2)
    (ap (λ (k : Command). job_from k (gathered_of c.args.self)) c.in-Edge.is ∙ job-edge c.in-Edge.by c.in-Edge.side (gathered_of c.args.self) (Err c.in_err-edge-in-Edge.field-0.0) c.in_err-edge-in-Edge.ensures)

pub returns-in_ok-edge-in-Edge : goal.returns-in_ok-edge-in-Edge
returns-in_ok-edge-in-Edge c =
    ap (λ (k : Command). job_from k (gathered_of c.args.self)) c.in-Edge.is ∙ job-edge c.in-Edge.by c.in-Edge.side (gathered_of c.args.self) (Ok (edge_asked_by c.in_ok-edge-in-Edge.field-0)) c.in_ok-edge-in-Edge.ensures

pub returns-in-Check : goal.returns-in-Check
returns-in-Check c = ap (λ (k : Command). job_from k (gathered_of c.args.self)) c.in-Check.is ∙ job-check (gathered_of c.args.self)
