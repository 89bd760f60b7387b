use Rattle.std.proofs.Common.{ℕ, ◌≡◌, ◌≤◌, ◌^◌, ℤ, ◌+ℤ◌, pos, to_z, of_z, unsigned_abs, arith, rules}
use Rattle.std.proofs.lemmas.Int.{ints}
use mir.Syntax.{w128}
use Rattle.split_energies.proofs.Weighed.{share_is}
use Rattle.split_energies.proofs.shares.shared.Goals as goal

added : (p : ℤ) (n : ℕ) → unsigned_abs p ≤ 2 ^ 106 → n ≤ 2 ^ 60 → to_z w128 (of_z w128 (to_z w128 (of_z w128 p) +ℤ to_z w128 n)) ≡ p +ℤ pos n
added p n h l = omega (arith, ints)

pub returns-clause-value : goal.returns-clause-value
returns-clause-value c =
    let w : to_z w128 (of_z w128 c.whole_part-whole.result) ≡ c.whole_part-whole.result = search rules in
    let e : to_z w128 (of_z w128 c.args.energy) ≡ c.args.energy = search rules in
    let rest = rw (w, e) at c.rest_part.ensures.value in
    let part = rw w at c.part.ensures.value in
    rw (added c.part.result c.raised.result c.part.ensures.small c.raised.ensures.small, part, c.raised.ensures.value)
    (share_is c.args.share c.rest_part.result c.args.energy c.whole_part-whole.result rest)
