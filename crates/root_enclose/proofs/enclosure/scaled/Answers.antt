use Rattle.std.proofs.Common.{rules, ◌≡◌, ◌*◌, ◌^◌, ◌<◌, arith}
use Rattle.std.proofs.Math.Nat.{mod-eq_of_lt}
use Rattle.log_laws.proofs.Exports.{pow-mul}
use Rattle.root_enclose.proofs.Squares.{scale_small}
use Rattle.root_enclose.proofs.enclosure.scaled.Goals as goal

pub overflow_mul-result : goal.overflow_mul-result
overflow_mul-result c =
    let small : c.args.scale < 63 = scale_small c.args.num c.args.scale (omega arith) c.requires in
    search rules

pub overflow_shl-result : goal.overflow_shl-result
overflow_shl-result c = omega (arith, scale_small c.args.num c.args.scale (omega arith) c.requires)

pub returns-else-num-eq0 : goal.returns-else-num-eq0
returns-else-num-eq0 c =
    let power : 2 ^ (2 * c.args.scale) ≡ 4 ^ c.args.scale = pow-mul 2 2 c.args.scale in
    let fits : c.args.num * 4 ^ c.args.scale < 2 ^ 128 = omega (arith, c.requires) in
    rw power (mod-eq_of_lt fits)
