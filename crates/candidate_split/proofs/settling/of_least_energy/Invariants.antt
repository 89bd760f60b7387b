use Rattle.std.proofs.Common.{◌≡◌, ℕ, ◌<◌, ◌≤ℤ◌, length, slice_index}
use Rattle.case_types.specs.Arithmetic.Numbers.{numbers_of}
use Rattle.case_types.specs.Arithmetic.Bounds.{box_of, energy_up as upper_energy}
use Rattle.candidate_split.proofs.settling.of_least_energy.Given as goal

abbrev pub invariant-loop-i : goal.invariant-loop-i
invariant-loop-i l = record {
  there : l.best < length l.places.items;
  energy : l.least ≡ upper_energy (numbers_of l.params.case) (box_of l.x) (slice_index l.places.items l.best);
  least : (k : ℕ) → k < l.i → l.least ≤ℤ upper_energy (numbers_of l.params.case) (box_of l.x) (slice_index l.places.items k);
}
