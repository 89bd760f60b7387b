use Rattle.flash_run.proofs.Working.{check_works}
use Rattle.flash_run.proofs.checking.check_job.Goals as goal

pub returns : goal.returns
returns g c = check_works (g.S.Source.left c.args.source.now) (g.S.Source.left c.check_stream.new.source)
    (g.S.Source.faults c.args.source.now) (g.S.Source.faults c.check_stream.new.source) (g.S.Source.failed c.check_stream.new.source)
    c.check_stream.result c.end_of.result c.check_stream.ensures.answers c.check_stream.ensures.last_take c.end_of.ensures
