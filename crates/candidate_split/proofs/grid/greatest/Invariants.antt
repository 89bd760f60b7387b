use Rattle.std.proofs.Common.{◌≡◌, ◌<◌}
use Rattle.candidate_split.specs.Grid.{first_greatest}
use Rattle.candidate_split.proofs.grid.greatest.Given as goal

abbrev pub invariant-loop-i : goal.invariant-loop-i
invariant-loop-i l = record { most : l.most ≡ first_greatest l.i l.fractions; inside : l.most < 4 }
