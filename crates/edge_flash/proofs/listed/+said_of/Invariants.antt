use Rattle.std.proofs.Common.{length}
use Rattle.edge_flash.proofs.listed.+said_of.Given as goal

abbrev pub decreases-said_of : goal.decreases-said_of
decreases-said_of l = length l.ends.now
