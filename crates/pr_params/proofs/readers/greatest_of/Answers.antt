use Rattle.std.proofs.Common.{◌^◌, ◌<◌, ℤ, pos, ◌≤ℤ◌, unsigned_abs, arith, subst, sym}
use Rattle.std.proofs.lemmas.Int.{ints}
use Rattle.log_laws.proofs.Exports.{back}
use Rattle.pr_params.specs.declared.numbers.Params.{Params}
use Rattle.pr_params.proofs.Accepted.{rho_is}
use Rattle.pr_params.proofs.AcceptedSizes.{usable}
use Rattle.pr_params.proofs.AllMeans.{rho_positive}
use Rattle.pr_params.proofs.InOrder.{rho_most}
use Rattle.case_types.specs.Arithmetic.Numbers.{numbers_of}
use Rattle.pr_params.proofs.readers.greatest_of.Goals as goal

-- the ratio is small
small : (z : ℤ) → pos 0 ≤ℤ z → z ≤ℤ pos (2 ^ 47) → unsigned_abs z < 2 ^ 127
small z low high = omega (arith, ints, low, high)

low : (p : Params) → pos 0 ≤ℤ p.rho
low p = subst (λ (z : ℤ). pos 0 ≤ℤ z) (sym (rho_is p)) (rho_positive p.case.n (numbers_of p.case) (usable p.case p.accepted))

high : (p : Params) → p.rho ≤ℤ pos (2 ^ 47)
high p = subst (λ (z : ℤ). z ≤ℤ pos (2 ^ 47)) (sym (rho_is p)) (rho_most p.case p.accepted)

pub returns-clause-value : goal.returns-clause-value
returns-clause-value c =
    let p = c.args.params.now in
    rw (back p.rho (small p.rho (low p) (high p))) (rho_is p)

pub returns-clause-low : goal.returns-clause-low
returns-clause-low c =
    let p = c.args.params.now in
    rw (back p.rho (small p.rho (low p) (high p))) (low p)

pub returns-clause-high : goal.returns-clause-high
returns-clause-high c =
    let p = c.args.params.now in
    rw (back p.rho (small p.rho (low p) (high p))) (high p)
