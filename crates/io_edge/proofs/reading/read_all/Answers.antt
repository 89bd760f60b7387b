use Rattle.std.proofs.Common.{arith, ◌∙◌, ◌++◌, length-append, length-take, take}
use Rattle.std.proofs.lemmas.Result.{err_from_is_err_and}
use Rattle.io_edge.proofs.Told.{ahead-step}
use Rattle.io_edge.proofs.reading.read_all.Goals as goal

pub returns-in_err-extend_from_slice-in-Bytes-clause-err : goal.returns-in_err-extend_from_slice-in-Bytes-clause-err
returns-in_err-extend_from_slice-in-Bytes-clause-err g c =
    let stop = err_from_is_err_and c.from_residual.result c.from_residual.ensures.1 in
    let once = c.in-Bytes.ensures.once in
    let lent = simp length-take at c.take.auto.buf in
    rw (stop.1, stop.2) (
      record {
        bytes = c.loop-buf.bytes.items ++ take c.in-Bytes.count c.take.new.buf;
        short = simp (length-append, length-take) (omega (arith, once.fits));
        taken = ahead-step _ _ _ _ _ c.loop-buf.invariant.taken once.next;
      },
      once.faults_stay ∙ c.loop-buf.invariant.no_fault,
    )
