use Rattle.std.proofs.Common.{arith}
use Rattle.case_types.specs.Grid.Cells.{region_of, lower_half, upper_half}
use Rattle.cert_letters.proofs.Deep.{deep_rest, deep_room, deep_halves}
use Rattle.cert_letters.proofs.reader.TreeReader.step.Goals as goal

pub invariant_of-self-in-Leaf : goal.invariant_of-self-in-Leaf
invariant_of-self-in-Leaf c = (
  c.self.invariant.0,
  c.self.invariant.1,
  omega (arith, c.self.invariant.2, c.if-self-eq0.false),
  deep_rest (region_of c.in-Some-pop.cell) c.pop.new.self (rw c.in-Some-pop.ensures.some at c.self.invariant.3),
)

pub put_back-requires : goal.put_back-requires
put_back-requires c =
    omega (arith, deep_room (region_of c.in-Some-pop.cell) c.pop.new.self (rw c.in-Some-pop.ensures.some at c.self.invariant.3))

pub push_halves-requires-clause-room : goal.push_halves-requires-clause-room
push_halves-requires-clause-room c =
    omega (arith, deep_room (region_of c.in-Some-pop.cell) c.pop.new.self (rw c.in-Some-pop.ensures.some at c.self.invariant.3))

pub invariant_of-self-in-Edge : goal.invariant_of-self-in-Edge
invariant_of-self-in-Edge c = (
  c.self.invariant.0,
  c.self.invariant.1,
  omega (arith, c.self.invariant.2, c.if-self-eq0.false),
  rw c.push_halves.ensures.halves (deep_halves (region_of c.in-Some-pop.cell) (lower_half c.in-Edge.edge (region_of c.in-Some-pop.cell)) (upper_half c.in-Edge.edge (region_of c.in-Some-pop.cell)) c.pop.new.self
      c.push_halves.ensures.lower_left c.push_halves.ensures.upper_left (rw c.in-Some-pop.ensures.some at c.self.invariant.3)),
)
