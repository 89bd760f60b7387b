use Rattle.case_types.specs.Arithmetic.Bounds.{Box}
use Rattle.split_energies.specs.Scanned.{IsScannedBelow}
use Rattle.split_energies.proofs.scans.scan.Given as goal

abbrev pub invariant-loop-k : goal.invariant-loop-k
invariant-loop-k g l = (x : Box) → g.S.Surface.is_mix_up l.surface x l.mix → IsScannedBelow (g.S.Surface.bounds l.surface) x l.k l.best
