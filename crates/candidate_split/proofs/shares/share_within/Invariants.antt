use Rattle.std.proofs.Common.{ℕ, ◌<◌, ◌≤◌, ◌*◌, ◌^◌}
use Rattle.split_energies.specs.Feeds.{feed_part}
use Rattle.candidate_split.specs.TwoPhases.{vapour_part}
use Rattle.candidate_split.proofs.shares.share_within.Given as goal

-- the feed has enough of the components before i
abbrev pub invariant-loop-i : goal.invariant-loop-i
invariant-loop-i l = record {
  some : 1 ≤ l.share;
  most : l.share ≤ l.most;
  fits : (k : ℕ) → k < l.i → vapour_part l.case l.share l.y k ≤ feed_part l.case k * 2 ^ 40;
}
