use Rattle.std.proofs.Common.{◌-◌}
use Rattle.csv.specs.Records.{fields_of}
use Rattle.component_table.proofs.Fields.{field-there, field-none}
use Rattle.component_table.proofs.records.field_of.Goals as goal

pub returns-in-Some : goal.returns-in-Some
returns-in-Some c = field-there (fields_of c.args.fields.now) (c.args.f - 1) c.in-Some.text.now c.in-Some.ensures.value

pub returns-in-None : goal.returns-in-None
returns-in-None c = field-none (fields_of c.args.fields.now) (c.args.f - 1) c.in-None.ensures.value
