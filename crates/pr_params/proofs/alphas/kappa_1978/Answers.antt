use Rattle.std.proofs.Common.{◌≡◌, ◌^◌, ◌<◌, pos, ◌*ℤ◌, unsigned_abs, to_z, of_z, refl, ◌∙◌, arith}
use Rattle.std.specs.Int.{w32}
use Rattle.std.proofs.lemmas.Int.{to_z-of_z}
use Rattle.log_laws.proofs.Exports.{back}
use Rattle.pr_params.proofs.Alpha.{read, sum_read, kappa_1978_small}
use Rattle.pr_params.proofs.alphas.kappa_1978.Goals as goal
use Rattle.pr_params.proofs.alphas.kappa_1978.Goals.{After-times-3}

-- the acentric factor as it is read
wide : (c : After-times-3) → read (to_z w32 (of_z w32 c.args.w)) ≡ c.args.w
wide c = rw (to_z-of_z w32 c.args.w c.ranges.w) (back c.args.w (omega (arith, c.requires)))

-- the products as numbers, and their sizes
once_is : (c : After-times-3) → c.times.result ≡ pos 16666 *ℤ c.args.w
once_is c = rw (wide c) at c.times.ensures.value

twice_is : (c : After-times-3) → c.times-2.result ≡ pos 16666 *ℤ c.args.w *ℤ c.args.w
twice_is c = rw (back c.times.result (omega (arith, c.times.ensures.small)), wide c, once_is c) at c.times-2.ensures.value

twice_small : (c : After-times-3) → unsigned_abs c.times-2.result < 2 ^ 43
twice_small c =
    let once = c.times.ensures.small in
    let s = rw (back c.times.result (omega (arith, once))) at c.times-2.ensures.small in omega (arith, s, once)

cube_is : (c : After-times-3) → c.times-3.result ≡ pos 16666 *ℤ c.args.w *ℤ c.args.w *ℤ c.args.w
cube_is c =
    let twice = twice_small c in
    rw (back c.times-2.result (omega (arith, twice)), wide c, twice_is c) at c.times-3.ensures.value

cube_small : (c : After-times-3) → unsigned_abs c.times-3.result < 2 ^ 57
cube_small c =
    let twice = twice_small c in
    let s = rw (back c.times-2.result (omega (arith, twice))) at c.times-3.ensures.small in omega (arith, s, twice)

pub returns-clause-value : goal.returns-clause-value
returns-clause-value c =
    let after = (goal.at.returns-clause-value c).After-times-3 in
    sum_read c.parabola-bent.result c.times-3.result c.parabola-bent.ensures.small (cube_small after)
    ∙ (rw (c.parabola-bent.ensures.value, cube_is after, wide after) refl)

pub returns-clause-small : goal.returns-clause-small
returns-clause-small c = rw (returns-clause-value c) (kappa_1978_small c.args.w c.requires)
