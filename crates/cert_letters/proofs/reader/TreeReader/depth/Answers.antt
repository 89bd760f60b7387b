use Rattle.std.proofs.Common.{arith}
use Rattle.cert_letters.proofs.Deep.{deep_length}
use Rattle.cert_letters.proofs.reader.TreeReader.depth.Goals as goal

pub overflow_cast-result : goal.overflow_cast-result
overflow_cast-result c = omega (arith, c.len.ensures, deep_length c.self.inside.stack c.self.invariant.3)

pub returns-clause-bounded : goal.returns-clause-bounded
returns-clause-bounded c = omega (arith, c.len.ensures, deep_length c.self.inside.stack c.self.invariant.3)
