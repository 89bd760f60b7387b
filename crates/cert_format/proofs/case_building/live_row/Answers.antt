use Rattle.std.proofs.Common.{◌∙◌, SFits, rules, ap, pos, neg_ℤ}
use Rattle.std.specs.Int.{w128, w32}
use Rattle.std.proofs.lemmas.Int.{to_z-of_z}
use Rattle.cert_format.specs.Building.{natural, held}
use Rattle.cert_format.proofs.case_building.live_row.Goals as goal

pub returns-clause-tc : goal.returns-clause-tc
returns-clause-tc c =
    let fits : SFits w128 c.number.result = search rules in
    c.natural.ensures.value ∙ ap (natural 5000 1500000) (to_z-of_z w128 c.number.result fits ∙ c.number.ensures)

pub returns-clause-pc : goal.returns-clause-pc
returns-clause-pc c =
    let fits : SFits w128 c.number-2.result = search rules in
    c.natural-2.ensures.value ∙ ap (natural 100000 50000000) (to_z-of_z w128 c.number-2.result fits ∙ c.number-2.ensures)

pub returns-clause-w : goal.returns-clause-w
returns-clause-w c =
    let fits : SFits w128 c.number-3.result = search rules in
    let fits_32 : SFits w32 c.acentric_factor.result = search rules in
    to_z-of_z w32 c.acentric_factor.result fits_32
    ∙ c.acentric_factor.ensures.value
    ∙ ap (held (neg_ℤ (pos 5000)) (pos 15000)) (to_z-of_z w128 c.number-3.result fits ∙ c.number-3.ensures)
