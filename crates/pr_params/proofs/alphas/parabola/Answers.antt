use Rattle.std.proofs.Common.{◌≡◌, ◌^◌, ◌<◌, ◌+ℤ◌, ◌-ℤ◌, ◌*ℤ◌, unsigned_abs, refl, arith, ◌∙◌}
use Rattle.std.proofs.lemmas.Int.{ints}
use Rattle.log_laws.proofs.Exports.{back}
use Rattle.pr_params.proofs.Alpha.{read, bent_read}
use Rattle.pr_params.proofs.alphas.parabola.Goals as goal
use Rattle.pr_params.proofs.alphas.parabola.Goals.{After-times-3}

-- the products as numbers, and their sizes
slope_is : (c : After-times-3) → c.times.result ≡ c.args.b *ℤ c.args.w
slope_is c = rw (back c.args.b (omega (arith, c.requires.b)), back c.args.w (omega (arith, c.requires.w))) at c.times.ensures.value

slope_small : (c : After-times-3) → unsigned_abs c.times.result < 2 ^ 62
slope_small c = let s = rw (back c.args.b (omega (arith, c.requires.b))) at c.times.ensures.small in omega (arith, s, c.requires.b)

once_is : (c : After-times-3) → c.times-2.result ≡ c.args.c *ℤ c.args.w
once_is c = rw (back c.args.c (omega (arith, c.requires.c)), back c.args.w (omega (arith, c.requires.w))) at c.times-2.ensures.value

once_small : (c : After-times-3) → unsigned_abs c.times-2.result < 2 ^ 46
once_small c = let s = rw (back c.args.c (omega (arith, c.requires.c))) at c.times-2.ensures.small in omega (arith, s, c.requires.c)

bend_is : (c : After-times-3) → c.times-3.result ≡ c.args.c *ℤ c.args.w *ℤ c.args.w
bend_is c =
    let once = once_small c in
    rw (back c.times-2.result (omega (arith, once)), back c.args.w (omega (arith, c.requires.w)), once_is c) at c.times-3.ensures.value

bend_small : (c : After-times-3) → unsigned_abs c.times-3.result < 2 ^ 60
bend_small c =
    let once = once_small c in
    let s = rw (back c.times-2.result (omega (arith, once))) at c.times-3.ensures.small in omega (arith, s, once)

pub overflow_sub-result : goal.overflow_sub-result
overflow_sub-result c =
    let s = slope_small c in
    let b = bend_small c in
    omega (arith, ints, s, b, c.requires.a)

read_is : (c : After-times-3) → read (read (read c.args.a +ℤ read c.times.result) -ℤ read c.times-3.result) ≡ c.args.a +ℤ c.times.result -ℤ c.times-3.result
read_is c = bent_read c.args.a c.times.result c.times-3.result c.requires.a (slope_small c) (bend_small c)

pub returns-clause-value : goal.returns-clause-value
returns-clause-value c =
    let after = (goal.at.returns-clause-value c).After-times-3 in
    read_is after ∙ (rw (slope_is after, bend_is after) refl)

pub returns-clause-small : goal.returns-clause-small
returns-clause-small c =
    let after = (goal.at.returns-clause-small c).After-times-3 in
    let s = slope_small after in
    let b = bend_small after in
    rw (read_is after) (omega (arith, ints, s, b, c.requires.a))
