use Rattle.edge_flash.specs.Places.{boundary}
use Rattle.edge_flash.proofs.Answered.{answer_says}
use Rattle.edge_flash.proofs.flash_places.edge_by.Goals as goal

pub returns-clause-kinds : goal.returns-clause-kinds
returns-clause-kinds g c =
    answer_says g.F.Flash.surface g.P.OnePhase.is_walk g.met.P.OnePhase.walks_hold c.args.case.now c.args.job.now
    (boundary c.args.job.now.side c.args.job.now.lo c.args.job.now.hi c.args.job.now.width) c.bisect.result c.bisect.ensures.bisected
