use Rattle.std.proofs.Common.{◌≤◌, ◌*◌, ◌^◌, pos, ◌*ℤ◌, unsigned_abs, arith}
use Rattle.std.specs.Int.{w128}
use Rattle.std.proofs.lemmas.Int.{ints, to_z_pos}
use Rattle.log_laws.proofs.Exports.{back, product_at_most}
use Rattle.helmholtz_density.proofs.mixes.part.Goals as goal

pub returns-clause-small : goal.returns-clause-small
returns-clause-small c =
    let a = c.requires.a in
    let log = c.requires.log in
    let small : unsigned_abs (pos c.args.a *ℤ c.args.log) ≤ c.args.a * 2 ^ 46 =
    product_at_most (pos c.args.a) c.args.log c.args.a (2 ^ 46) (omega (arith, ints)) log in
    rw (to_z_pos w128 c.args.a (omega (arith, a)), back c.args.log (omega (arith, log)), back (pos c.args.a *ℤ c.args.log) (omega (arith, small, a))) small
