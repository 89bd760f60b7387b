use Rattle.std.proofs.Common.{refl}
use Rattle.edge_flash.proofs.ends.beside.Goals as goal

pub returns-in-Grain-clause-tells : goal.returns-in-Grain-clause-tells
returns-in-Grain-clause-tells c = rw c.in-Grain.is ((c.grain_cell.result, refl, c.grain_cell.ensures), refl)
