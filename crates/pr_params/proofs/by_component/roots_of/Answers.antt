use Rattle.std.proofs.Common.{arith}
use Rattle.log_laws.proofs.Exports.{back}
use Rattle.pr_params.specs.Entries.{temperature_entry}
use Rattle.pr_params.proofs.Placed.{alpha_made}
use Rattle.pr_params.proofs.by_component.roots_of.Goals as goal

pub returns-clause-temperature : goal.returns-clause-temperature
unfolding temperature_entry
returns-clause-temperature c = rw (← c.row_at-row.ensures.tc) c.temperature_root-t.ensures.ends

pub returns-clause-alpha : goal.returns-clause-alpha
returns-clause-alpha c =
    let kappa = back c.kappa.result (omega (arith, c.kappa.ensures.small)) in
    let root = c.temperature_root-t.result in
    alpha_made c.args.case.now c.args.i c.kappa.result c.alpha_root.result.lo c.alpha_root.result.hi root.lo root.hi
    (rw c.row_at-row.ensures.w at c.kappa.ensures.value) (returns-clause-temperature c)
    (rw kappa at c.alpha_root.ensures.lo) (rw kappa at c.alpha_root.ensures.hi)
