use Rattle.std.proofs.Common.{subst, sym}
use Rattle.cert_format.specs.Reading.{IsRead}
use Rattle.cert_format.proofs.ReadOn.{read_on}
use Rattle.cert_format.proofs.head_reader.HeadReader.line.Goals.{in-More, in-Done, in-Bad}
use Rattle.cert_format.proofs.head_reader.HeadReader.line.Goals as goal

pub head_of-requires : goal.head_of-requires
head_of-requires c = record {
  read = read_on _ c.line.new.self _ c.self.invariant c.in-Done.ensures.0;
  ended = c.in-Done.ensures.1;
}

pub invariant_of-self : goal.invariant_of-self
invariant_of-self c = elim c.match-line.branch [
  | in-More w ↦ read_on _ c.line.new.self _ c.self.invariant w.in-More.ensures.0
  | in-Done w ↦ read_on _ c.line.new.self _ c.self.invariant w.in-Done.ensures.0
  | in-Bad w ↦ subst IsRead (sym w.in-Bad.ensures.2) c.self.invariant
]
