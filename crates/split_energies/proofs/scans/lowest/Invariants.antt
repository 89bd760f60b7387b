use Rattle.std.proofs.Common.{◌≡◌, ◌^◌, ◌<◌, drop, unsigned_abs}
use Rattle.case_types.specs.Arithmetic.Bounds.{Box}
use Rattle.split_energies.specs.Scanned.{lowest_of}
use Rattle.split_energies.proofs.scans.lowest.Given as goal

-- it is the lowest state of the last one and of those from this place on
abbrev pub invariant-loop-k : goal.invariant-loop-k
invariant-loop-k g l = (x : Box) → g.S.Surface.is_mix_up l.surface x l.mix →
    (l.best ≡ lowest_of (g.S.Surface.bounds l.surface) x (drop l.k l.packings.items) l.fn.last) × (unsigned_abs l.best.up < 2 ^ 49)
