use Rattle.std.proofs.Common.{arith, ◌^◌, pos, ◌*ℤ◌}
use Rattle.std.specs.Int.{w128}
use Rattle.std.proofs.lemmas.Int.{fits_signed_from_abs}
use Rattle.log_laws.proofs.Exports.{back}
use Rattle.fix_interval.proofs.Wrapped.{power, scaled_small}
use Rattle.fix_interval.proofs.quotients.scaled.Goals as goal

pub overflow_mul-result : goal.overflow_mul-result
overflow_mul-result c =
    rw (back c.args.z (omega arith), power c.args.shift c.requires.shift)
    (fits_signed_from_abs w128 (c.args.z *ℤ pos (2 ^ c.args.shift)) (omega (arith, scaled_small c.args.z c.args.shift c.requires.z c.requires.shift)))

pub returns-clause-value : goal.returns-clause-value
returns-clause-value c =
    rw (back c.args.z (omega arith), power c.args.shift c.requires.shift)
    (back (c.args.z *ℤ pos (2 ^ c.args.shift)) (omega (arith, scaled_small c.args.z c.args.shift c.requires.z c.requires.shift)))

pub returns-clause-small : goal.returns-clause-small
returns-clause-small c = rw (returns-clause-value c) (scaled_small c.args.z c.args.shift c.requires.z c.requires.shift)
