use Rattle.std.proofs.Common.{ℕ, ◌+◌, ◌*◌, ◌/◌, ◌%◌, ◌^◌, ◌<◌, ◌≤◌, sym, arith}
use Rattle.log_laws.proofs.Exports.{scaled_quotient}
use Rattle.exact_lp.proofs.planes.scaled_quotient.Goals as goal
use Rattle.exact_lp.proofs.SlopeBounds.{quotient_below}

whole : (a s : ℕ) → 1 ≤ s → a ≤ 2 ^ 41 * s → a / s < 2 ^ 41 + 1
whole a s h k = quotient_below a s (2 ^ 41 + 1) (omega (arith, h)) (omega (arith, h, k))

rest : (a s : ℕ) → 1 ≤ s → (a % s) * 2 ^ 30 / s < 2 ^ 30
rest a s h = quotient_below ((a % s) * 2 ^ 30) s (2 ^ 30) (omega (arith, h)) (omega (arith, h))

pub returns-clause-value : goal.returns-clause-value
returns-clause-value c = sym (scaled_quotient c.args.a c.args.size (2 ^ 30) (omega (arith, c.requires.some)))

pub returns-clause-small : goal.returns-clause-small
returns-clause-small c =
    omega (arith, whole c.args.a c.args.size c.requires.some c.requires.small, rest c.args.a c.args.size c.requires.some)
