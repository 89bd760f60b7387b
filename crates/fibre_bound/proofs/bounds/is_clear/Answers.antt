use Rattle.std.proofs.Common.{ℤ, ◌^◌, ◌<◌, ◌≤◌, ◌-ℤ◌, unsigned_abs, refl, arith}
use Rattle.std.proofs.lemmas.Int.{ints}
use Rattle.log_laws.proofs.Exports.{back}
use Rattle.fibre_bound.proofs.bounds.is_clear.Goals as goal

less_small : (up slack : ℤ) → unsigned_abs up < 2 ^ 49 → unsigned_abs slack ≤ 2 ^ 34 → unsigned_abs (up -ℤ slack) < 2 ^ 50
less_small up slack h k = omega (arith, ints, h, k)

pub returns : goal.returns
returns c =
    let best = c.args.best.now.up in
    let feed = c.args.feed.now in
    let cell = c.args.cell.now in
    let up = back best (omega (arith, c.requires)) in
    let slack = back feed.slack (omega (arith, feed.slack_small)) in
    let low = back cell.low (omega (arith, cell.low_small)) in
    let less = back (best -ℤ feed.slack) (omega (arith, less_small best feed.slack c.requires feed.slack_small)) in
    rw (up, slack, low, less) refl
