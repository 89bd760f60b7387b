use Rattle.std.proofs.Common.{◌≡◌, true}
use Rattle.log_laws.specs.Sums.{all_below}
use Rattle.cert_check.proofs.Pairs.{are_stated_pressures}
use Rattle.cert_check.proofs.testing.states_pressure_roots.Given as goal

abbrev pub invariant-loop-j : goal.invariant-loop-j
invariant-loop-j l = all_below l.j (are_stated_pressures l.stated) ≡ true
