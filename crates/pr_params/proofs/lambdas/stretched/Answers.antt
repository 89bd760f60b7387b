use Rattle.std.proofs.Common.{◌≡◌, ◌∙◌, ◌*◌, ◌^◌, sym, rules}
use Rattle.log_laws.specs.Whole.{ceil_quotient}
use Rattle.case_types.specs.Arithmetic.Numbers.{numbers_of}
use Rattle.pr_params.proofs.Accepted.{two_exact}
use Rattle.pr_params.proofs.Lambda.{stretched_up_is, stretched_down_is}
use Rattle.pr_params.proofs.lambdas.stretched.Goals as goal

pub returns-clause-down : goal.returns-clause-down
returns-clause-down c = λ case. sym (stretched_down_is (numbers_of case) c.args.y (two_exact case))

pub returns-clause-up : goal.returns-clause-up
returns-clause-up c = λ case.
    let e : c.div_ceil.result ≡ ceil_quotient (1630477228166597777 * c.args.y) (2 ^ 60) = search rules in
    e ∙ sym (stretched_up_is (numbers_of case) c.args.y (two_exact case))
