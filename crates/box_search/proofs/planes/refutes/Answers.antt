use Rattle.std.proofs.Common.{arith}
use Rattle.std.proofs.lemmas.Int.{ints}
use Rattle.log_laws.proofs.Exports.{back}
use Rattle.box_search.proofs.planes.refutes.Goals as goal

pub returns : goal.returns
returns c =
    let small = c.plane_on.ensures.small in
    rw (← c.plane_on.ensures.value, back c.plane_on.result (omega (arith, small))) (
      λ t. omega (arith, ints, t, c.requires.up, c.requires.delta_low, c.requires.delta_high),
      λ h. grind (arith, ints, h, c.requires.up, c.requires.delta_low, c.requires.delta_high),
    )
