use Rattle.std.proofs.Common.{FitsSigned, rules}
use Rattle.std.specs.Int.{w128}
use Rattle.exact_lp.proofs.MachineNumbers.{read}
use Rattle.exact_lp.proofs.normals.volume.Goals as goal

pub returns-clause-value : goal.returns-clause-value
returns-clause-value c =
    let f : FitsSigned w128 c.woven.result = search rules in
    let p : FitsSigned w128 c.minor.result = search rules in
    let q : FitsSigned w128 c.minor-2.result = search rules in
    let r : FitsSigned w128 c.minor-3.result = search rules in
    let e = rw (read c.minor.result p, read c.minor-2.result q, read c.minor-3.result r, c.minor.ensures.value, c.minor-2.ensures.value, c.minor-3.ensures.value) at c.woven.ensures.value in
    rw (read c.woven.result f) e
