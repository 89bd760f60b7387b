use Rattle.log_laws.specs.Roots.{floor_root}
use Rattle.std.proofs.Common.{arith}
use Rattle.root_enclose.proofs.RootDigits.{same_root, floor_root_is}
use Rattle.root_enclose.proofs.whole.isqrt.Goals as goal

pub returns-clause-value : goal.returns-clause-value
returns-clause-value c =
    same_root c.isqrt.result (floor_root c.args.n) c.args.n
    (record { square = c.isqrt.ensures.square_le; next = c.isqrt.ensures.next_square_gt })
    (floor_root_is c.args.n (omega arith))
