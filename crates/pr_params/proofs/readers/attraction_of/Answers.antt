use Rattle.std.proofs.Common.{rules, ◌≡◌, ◌≤◌, ◌∙◌, ap, arith, length, get_or}
use Rattle.std.proofs.lemmas.Int.{ints}
use Rattle.log_laws.specs.Between.{Ends}
use Rattle.log_laws.specs.Interval.{ends_of}
use Rattle.pr_params.proofs.AcceptedSizes.{attraction_least, covolume_most}
use Rattle.pr_params.proofs.InOrder.{attraction_most}
use Rattle.pr_params.proofs.HeldAt.{attraction_held_at}
use Rattle.pr_params.proofs.MeansHold.{covolume_ordered}
use Rattle.pr_params.proofs.readers.attraction_of.Goals as goal

pub returns-clause-ends : goal.returns-clause-ends
returns-clause-ends c =
    let p = c.args.params.now in
    let few = p.case.few in
    let all : 4 ≤ length p.a = search rules in
    let long : 4 ≤ length c.in-Some.row.now = search rules in
    let row : c.in-Some.row.now ≡ get_or p.a c.args.i c.in-Some.row.now = c.in-Some.ensures.lookup.1 in
    ap (λ l. ends_of (get_or l c.args.j c.index-row-j.result)) row
    ∙ attraction_held_at p c.args.i c.args.j c.in-Some.row.now c.index-row-j.result c.requires.first c.requires.second (omega (arith, few, all))
    (let e = ap length row in omega (arith, few, long, e))

pub returns-clause-low : goal.returns-clause-low
returns-clause-low c =
    let p = c.args.params.now in
    rw (ap (λ (v : Ends). v.lo) (returns-clause-ends c)) (attraction_least p.case c.args.i c.args.j p.accepted c.requires.first c.requires.second)

pub returns-clause-high : goal.returns-clause-high
returns-clause-high c =
    let p = c.args.params.now in
    let most = attraction_most p.case c.args.i c.args.j p.accepted c.requires.first c.requires.second in
    let order = covolume_ordered p.case c.args.i c.requires.first in
    let top = covolume_most p.case c.args.i p.accepted c.requires.first in
    rw (ap (λ (v : Ends). v.hi) (returns-clause-ends c)) (omega (arith, ints, most, order, top))
