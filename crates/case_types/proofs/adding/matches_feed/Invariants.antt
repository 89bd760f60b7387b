use Rattle.std.proofs.Common.{ℕ, ◌≡◌, ◌*◌, ◌<◌}
use Rattle.case_types.specs.Energy.Components.{feed}
use Rattle.case_types.specs.Energy.Divisions.{division_of, parts_in}
use Rattle.case_types.proofs.adding.matches_feed.Given as goal

-- the components before i add up
abbrev pub invariant-loop-i : goal.invariant-loop-i
invariant-loop-i l =
    (k : ℕ) → k < l.i → l.case.total * parts_in (division_of l.split).phases k ≡ feed l.case k * l.split.sum
