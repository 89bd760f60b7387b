use Rattle.std.proofs.Common.{arith, ◌∙◌, length-drop}
use Rattle.std.proofs.lemmas.List.{take_rest}
use Rattle.io_edge.proofs.Told.{behind-take}
use Rattle.io_edge.proofs.writing.write_all.Goals as goal

pub loop-done-preserved : goal.loop-done-preserved
loop-done-preserved g c =
    let once = c.in-Wrote.ensures.once in
    let fits = simp take_rest at once.fits in
    record {
      within = omega (arith, simp length-drop at fits);
      appended = behind-take _ _ _ _ _ _ c.loop-done.invariant.appended (simp take_rest at once.appended);
      no_fault = once.faults_stay ∙ c.loop-done.invariant.no_fault;
    }
