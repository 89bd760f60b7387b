use Rattle.std.proofs.Common.{rules, ◌≤◌, ap, arith, length}
use Rattle.log_laws.specs.Between.{Ends}
use Rattle.pr_params.proofs.AcceptedSizes.{covolume_least, covolume_most}
use Rattle.pr_params.proofs.HeldAt.{covolume_held_at}
use Rattle.pr_params.proofs.readers.covolume_of.Goals as goal

pub returns-clause-ends : goal.returns-clause-ends
returns-clause-ends c =
    let p = c.args.params.now in
    let few = p.case.few in
    let all : 4 ≤ length p.b = search rules in
    covolume_held_at p c.args.i c.index-params-i.result c.requires (omega (arith, few, all))

pub returns-clause-low : goal.returns-clause-low
returns-clause-low c =
    let p = c.args.params.now in
    rw (ap (λ (v : Ends). v.lo) (returns-clause-ends c)) (covolume_least p.case c.args.i p.accepted c.requires)

pub returns-clause-high : goal.returns-clause-high
returns-clause-high c =
    let p = c.args.params.now in
    rw (ap (λ (v : Ends). v.hi) (returns-clause-ends c)) (covolume_most p.case c.args.i p.accepted c.requires)
