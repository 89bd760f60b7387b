use Rattle.case_words.specs.Jobs.{job_of}
use Rattle.flash_run.proofs.Takes.{takes_at_most}
use Rattle.flash_run.proofs.top.run.Goals as goal

pub returns-in_default-clause-takes : goal.returns-in_default-clause-takes
returns-in_default-clause-takes g c = takes_at_most (job_of c.args.words.now.items) c.work-end.result
    (g.S.Source.left c.args.source.now) (g.S.Source.left c.work-end.new.source)
    (g.S.Source.faults c.args.source.now) (g.S.Source.faults c.work-end.new.source) (g.S.Source.failed c.work-end.new.source) c.work-end.ensures
