use Rattle.std.proofs.Common.{◌≡◌, true}
use Rattle.log_laws.specs.Sums.{all_below}
use Rattle.cert_check.proofs.Pairs.{is_stated_temperature}
use Rattle.cert_check.proofs.testing.states_temperature_roots.Given as goal

abbrev pub invariant-loop-i : goal.invariant-loop-i
invariant-loop-i l = all_below l.i (is_stated_temperature l.stated) ≡ true
