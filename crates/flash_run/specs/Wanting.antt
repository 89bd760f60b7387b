-- What is wanted of a table, as the definitions of the words see it.
use Rattle.std.specs.Prelude.{Option, Some, None}
use Rattle.case_words.specs.Jobs.{Asked, PlainJob, PlainTp, PlainCert, PlainCheck, PlainEdge}
use Rattle.case_words.specs.Views.{asked_by, edge_asked_by}
use Rattle.flash_run.specs.declared.wanted.Printed.{Printed}
use Rattle.flash_run.specs.declared.wanted.Printed.TheVariants.{Report, Certificate}
use Rattle.flash_run.specs.declared.wanted.Wanted.{Wanted}
use Rattle.flash_run.specs.declared.wanted.Wanted.TheVariants.{Flash, Boundary}

-- the job of a flash of which this is printed
abbrev pub flash_for : Printed → Asked → PlainJob
flash_for Report asked = PlainTp asked
flash_for Certificate asked = PlainCert asked

-- the job that this is wanted for
abbrev pub job_for : Wanted → PlainJob
job_for (Flash printed words) = flash_for printed (asked_by words.now)
job_for (Boundary words) = PlainEdge (edge_asked_by words.now)

-- what a flash of the case is asked of
abbrev pub named_by : Wanted → Asked
named_by (Flash printed words) = asked_by words.now
named_by (Boundary words) = asked_by words.now.base
