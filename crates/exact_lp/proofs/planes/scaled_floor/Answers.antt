use Rattle.std.proofs.Common.{ℕ, ◌^◌, pos, ◌-ℤ◌, sym, ap, ◌∙◌, arith}
use Rattle.log_laws.proofs.Exports.{floor_shifted}
use Rattle.exact_lp.proofs.MachineNumbers.{read, shifted}
use Rattle.exact_lp.proofs.planes.scaled_floor.Goals as goal

pub returns : goal.returns
returns c =
    let e = floor_shifted c.args.y c.raised.result (2 ^ 40) c.args.size (2 ^ 30) (omega (arith, c.requires.some)) (rw (read c.args.y c.ranges.y) at c.raised.ensures.value) in
    shifted c.scaled_quotient.result (2 ^ 70) c.scaled_quotient.ensures.small (omega arith)
    ∙ ap (λ (q : ℕ). pos q -ℤ pos (2 ^ 70)) c.scaled_quotient.ensures.value ∙ sym e
