use Rattle.std.proofs.Common.{Some, ap, rules}
use Rattle.std.proofs.lemmas.List.{take_rest}
use Rattle.io_edge.proofs.Told.{drop-split}
use Rattle.io_edge.proofs.mem_source.MemSourceSource.take.Goals as goal

pub returns-clause-once : goal.returns-clause-once
returns-clause-once c =
    let source = c.self.inside in
    let front = rw c.deref.ensures.value at (simp take_rest at c.copy_front.ensures) in
    record {
      some = search rules;
      fits = search rules;
      next = rw (← c.self.view_is, front) (ap Some (drop-split source.at c.min-count.result source.bytes.items));
      faults_stay = search rules;
    }
