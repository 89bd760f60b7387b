use Rattle.std.proofs.Common.{ℕ, ◌≡◌, ◌<◌, ◌≤◌, ◌*◌, ◌/◌, ◌^◌, ℤ, ◌*ℤ◌, pos, to_z, of_z, refl, arith, rules, true, false}
use Rattle.std.proofs.lemmas.Int.{ints}
use Rattle.std.specs.Prelude.{int_le}
use mir.Syntax.{w128}
use Rattle.log_laws.specs.Whole.{ceil_quotient, ceil_div}
use Rattle.case_types.specs.Arithmetic.Splits.{share_of_energy}
use Rattle.log_laws.proofs.Exports.{floor-le-ceiling, ceiling_at_most}
use Rattle.split_energies.proofs.Weighed.{share_above_zero, share_below_zero}
use Rattle.split_energies.proofs.shares.energy_share.Goals as goal
use Rattle.split_energies.proofs.shares.energy_share.Goals.{then-energy-ge0, else-energy-ge0}

-- the share that the sign of the energy asks for
above : (m sum share hi : ℕ) (u r : ℤ) → 0 < sum → int_le (pos 0) u ≡ true → share ≡ hi → hi ≡ ceil_quotient (m * 2 ^ 60) sum →
    r ≡ ceil_div (pos share *ℤ u) (pos (2 ^ 60)) → r ≡ share_of_energy m sum u
above m sum share hi u r some s e f is =
    rw (is, e, f, share_above_zero (m * 2 ^ 60 / sum) (ceil_quotient (m * 2 ^ 60) sum) u (floor-le-ceiling (m * 2 ^ 60) sum some) (grind (arith, ints))) refl

below : (m sum share lo : ℕ) (u r : ℤ) → 0 < sum → int_le (pos 0) u ≡ false → share ≡ lo → lo ≡ m * 2 ^ 60 / sum →
    r ≡ ceil_div (pos share *ℤ u) (pos (2 ^ 60)) → r ≡ share_of_energy m sum u
below m sum share lo u r some s e f is =
    rw (is, e, f, share_below_zero (m * 2 ^ 60 / sum) (ceil_quotient (m * 2 ^ 60) sum) u (floor-le-ceiling (m * 2 ^ 60) sum some) (grind (arith, ints))) refl

-- the share of no more than the sum is at most one
share_in_one : (m sum : ℕ) → 0 < sum → m ≤ sum → (ceil_quotient (m * 2 ^ 60) sum ≤ 2 ^ 60) × (m * 2 ^ 60 / sum ≤ 2 ^ 60)
share_in_one m sum some h =
    let high : ceil_quotient (m * 2 ^ 60) sum ≤ 2 ^ 60 = ceiling_at_most (m * 2 ^ 60) sum (2 ^ 60) some (omega (arith, h)) in
    (high, omega (arith, high, floor-le-ceiling (m * 2 ^ 60) sum some))

pub shared-requires-clause-share : goal.shared-requires-clause-share
shared-requires-clause-share c =
    let in_one = share_in_one c.args.parts c.args.sum (omega (arith, c.requires.some)) c.requires.inside in
    elim c.if-energy-ge0.branch [
      | then-energy-ge0 w ↦ rw (w.shared-is, c.ratio_ends-least.ensures.hi) in_one.0
      | else-energy-ge0 w ↦ rw (w.shared-is, c.ratio_ends-least.ensures.lo) in_one.1
    ]

pub returns-clause-value : goal.returns-clause-value
returns-clause-value c =
    let energy = c.args.energy in
    let r : to_z w128 (of_z w128 c.shared.result) ≡ c.shared.result = search rules in
    let u : to_z w128 (of_z w128 energy) ≡ energy = search rules in
    let is = rw u at c.shared.ensures.value in
    let some : 0 < c.args.sum = omega (arith, c.requires.some) in
    rw r
    (elim c.if-energy-ge0.branch [
      | then-energy-ge0 w ↦ above c.args.parts c.args.sum c.if-energy-ge0.shared c.ratio_ends-least.result.1 energy c.shared.result some
          (rw u at w.if-energy-ge0.true) w.shared-is c.ratio_ends-least.ensures.hi is
      | else-energy-ge0 w ↦ below c.args.parts c.args.sum c.if-energy-ge0.shared c.ratio_ends-least.result.0 energy c.shared.result some
          (rw u at w.if-energy-ge0.false) w.shared-is c.ratio_ends-least.ensures.lo is
    ])
