use Rattle.std.proofs.Common.{◌<◌, ◌^◌, unsigned_abs, arith}
use Rattle.std.proofs.lemmas.Int.{ints}
use Rattle.log_laws.proofs.Exports.{back}
use Rattle.pr_surface.proofs.searching.search.Goals as goal

pub returns-clause-found : goal.returns-clause-found
returns-clause-found c =
    let small : unsigned_abs c.args.delta < 2 ^ 127 = omega (arith, ints, c.requires.delta_low, c.requires.delta_high) in
    rw (back c.args.delta small) at c.search.ensures.found

pub returns-clause-searched : goal.returns-clause-searched
returns-clause-searched c =
    let small : unsigned_abs c.args.delta < 2 ^ 127 = omega (arith, ints, c.requires.delta_low, c.requires.delta_high) in
    rw (back c.args.delta small) at c.search.ensures.searched

pub returns-clause-root : goal.returns-clause-root
returns-clause-root c =
    let small : unsigned_abs c.args.delta < 2 ^ 127 = omega (arith, ints, c.requires.delta_low, c.requires.delta_high) in
    rw (back c.args.delta small) at c.search.ensures.root
