use Rattle.flash_run.specs.Wanting.{job_for, named_by}
use Rattle.flash_run.proofs.Wanting.{names_its_case}
use Rattle.flash_run.proofs.Working.{judged_works, failed_works, long_table_works, unread_works}
use Rattle.std.proofs.Common.{rules}
use Rattle.flash_run.proofs.flashing.table_job.Goals as goal

pub returns : goal.returns
returns g c =
    let all = c.in-Ok.ensures.ok in
    judged_works (job_for c.args.wanted) (named_by c.args.wanted) c.in-Ok.bytes.items (g.S.Source.left c.args.source.now) (g.S.Source.left c.read_all.new.source)
    (g.S.Source.faults c.args.source.now) (g.S.Source.faults c.read_all.new.source) (g.S.Source.failed c.read_all.new.source) c.judge.result
    (names_its_case c.args.wanted) (record { short = all.short; taken = all.taken; ended = all.ended }) all.no_fault
    (rw c.deref.ensures.value at c.judge.ensures)

pub returns-in-Err-Failed : goal.returns-in-Err-Failed
returns-in-Err-Failed g c =
    failed_works (job_for c.args.wanted) (named_by c.args.wanted) (g.S.Source.left c.args.source.now) (g.S.Source.left c.read_all.new.source)
    (g.S.Source.faults c.args.source.now) (g.S.Source.faults c.read_all.new.source) (g.S.Source.failed c.read_all.new.source)
    (names_its_case c.args.wanted) (rw c.in-Err-Failed.field-0-is at c.in-Err-Failed.ensures.err) (search rules)

pub returns-in-Err-TooLong : goal.returns-in-Err-TooLong
returns-in-Err-TooLong g c =
    long_table_works (job_for c.args.wanted) (named_by c.args.wanted) (g.S.Source.left c.args.source.now) (g.S.Source.left c.read_all.new.source)
    (g.S.Source.faults c.args.source.now) (g.S.Source.faults c.read_all.new.source) (g.S.Source.failed c.read_all.new.source)
    (names_its_case c.args.wanted) (rw c.in-Err-TooLong.field-0-is at c.in-Err-TooLong.ensures.err)

pub returns-in-Err-Memory : goal.returns-in-Err-Memory
returns-in-Err-Memory g c =
    unread_works (job_for c.args.wanted) (named_by c.args.wanted) (g.S.Source.left c.args.source.now) (g.S.Source.left c.read_all.new.source)
    (g.S.Source.faults c.args.source.now) (g.S.Source.faults c.read_all.new.source) (g.S.Source.failed c.read_all.new.source)
    (names_its_case c.args.wanted) (rw c.in-Err-Memory.field-0-is at c.in-Err-Memory.ensures.err)
