use Rattle.std.proofs.Common.{◌≡◌, drop}
use Rattle.component_table.specs.Tables.{is_pair}
use Rattle.component_table.specs.Choosing.{first_k}
use Rattle.component_table.proofs.picking.interaction.Given as goal

abbrev pub invariant-loop-p : goal.invariant-loop-p
invariant-loop-p l = first_k (is_pair l.i l.j) l.pairs ≡ first_k (is_pair l.i l.j) (drop l.p-index l.pairs)
