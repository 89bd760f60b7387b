use Rattle.std.proofs.Common.{◌∙◌, sym}
use Rattle.cert_check.proofs.Balances.{divides}
use Rattle.cert_check.proofs.testing.first_broken.Goals as goal

pub is_energy-requires-clause-divides : goal.is_energy-requires-clause-divides
is_energy-requires-clause-divides c = divides c.args.head.now c.requires (sym c.first_unbalanced.ensures ∙ c.in_default-first_unbalanced.is)
