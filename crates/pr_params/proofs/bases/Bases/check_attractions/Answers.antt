use Rattle.std.proofs.lemmas.Result.{err_from_is_err_and}
use Rattle.case_types.specs.Arithmetic.Faults.{first_below, attraction_fault}
use Rattle.case_types.specs.Arithmetic.Numbers.{numbers_of}
use Rattle.pr_params.proofs.Below.{first_below_more, first_below_found, first_below_zero}
use Rattle.pr_params.proofs.bases.Bases.check_attractions.Goals as goal

pub loop-i-init : goal.loop-i-init
loop-i-init c = first_below_zero (λ i. first_below c.args.self.now.case.n (attraction_fault (numbers_of c.args.self.now.case) i))

pub loop-i-preserved : goal.loop-i-preserved
loop-i-preserved c =
    let case = c.args.self.now.case in
    first_below_more c.loop-i.i (λ i. first_below case.n (attraction_fault (numbers_of case) i)) c.loop-i.invariant c.in_ok-check_row.ensures.ok

pub returns-in_err-check_row-clause-err : goal.returns-in_err-check_row-clause-err
returns-in_err-check_row-clause-err c =
    let case = c.args.self.now.case in
    let p = err_from_is_err_and c.from_residual.result c.from_residual.ensures.1 in
    rw (p.1, p.2)
    (first_below_found case.n (λ i. first_below case.n (attraction_fault (numbers_of case) i)) c.loop-i.i _ c.loop-i-test.true c.loop-i.invariant c.in_err-check_row.ensures.err)
