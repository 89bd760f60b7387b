use Rattle.std.proofs.Common.{◌≡◌, ◌*◌, ◌^◌, true}
use Rattle.std.specs.Prelude.{nat_le}
use Rattle.log_laws.specs.Sums.{all_below}
use Rattle.split_energies.specs.Feeds.{feed_part}
use Rattle.candidate_split.specs.TwoPhases.{vapour_part}
use Rattle.candidate_split.proofs.two_phases.fits.Given as goal

-- the feed has enough of the components before i
abbrev pub invariant-loop-i : goal.invariant-loop-i
invariant-loop-i l = all_below l.i (λ i. nat_le (vapour_part l.case l.v l.y i) (feed_part l.case i * 2 ^ 40)) ≡ true
