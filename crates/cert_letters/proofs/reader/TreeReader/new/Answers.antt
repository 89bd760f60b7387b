use Rattle.std.proofs.Common.{arith}
use Rattle.case_types.specs.Grid.Cells.{region_of}
use Rattle.cert_letters.proofs.Deep.{deep_root}
use Rattle.cert_letters.proofs.reader.TreeReader.new.Goals as goal

pub invariant_of-result : goal.invariant_of-result
invariant_of-result c = (
  c.requires.one,
  c.requires.four,
  omega (arith, c.requires.few),
  deep_root c.args.n (region_of c.root-whole.result) c.new.result c.requires.four c.new.ensures c.root-whole.ensures.halvings,
)
