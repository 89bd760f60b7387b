use Rattle.std.proofs.Common.{ℕ, ◌*◌, ◌^◌, ◌-◌, ◌≤◌, ◌<◌, subst, sym}
use Rattle.log_laws.specs.Squaring.{IsNormal, exponent}
use Rattle.log_enclose.proofs.Logs.{exponent_is, normal_of, shifted}
use Rattle.log_enclose.proofs.ends.parts_of.Goals as goal

normal : (n : ℕ) → 1 ≤ n → n < 2 ^ 62 → IsNormal (n * 2 ^ (61 - exponent n))
normal n h l = let e = exponent_is n h l in normal_of n (exponent n) e.0 e.1 e.2

pub overflow_sub-result : goal.overflow_sub-result
overflow_sub-result c = (exponent_is c.args.n c.requires.positive c.requires.below).2

pub returns-clause-few : goal.returns-clause-few
returns-clause-few c = (exponent_is c.args.n c.requires.positive c.requires.below).2

pub returns-clause-mantissa : goal.returns-clause-mantissa
returns-clause-mantissa c = shifted c.args.n (exponent c.args.n) (normal c.args.n c.requires.positive c.requires.below)

pub returns-clause-normal : goal.returns-clause-normal
returns-clause-normal c = subst IsNormal (sym (returns-clause-mantissa c)) (normal c.args.n c.requires.positive c.requires.below)
