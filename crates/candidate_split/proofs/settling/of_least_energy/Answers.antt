use Rattle.std.proofs.Common.{◌≡◌, ◌≤ℤ◌, ℕ, ℤ, to_z, of_z, slice_index, ◌∙◌, arith}
use Rattle.std.specs.Int.{w128}
use Rattle.std.proofs.lemmas.Int.{ints}
use Rattle.std.proofs.lemmas.List.Elements.{All-from_get_or}
use borrow.Author.Count.{below_more}
use Rattle.log_laws.proofs.Exports.{back}
use Rattle.case_types.specs.Arithmetic.Numbers.{numbers_of}
use Rattle.case_types.specs.Arithmetic.Bounds.{box_of, energy_up as upper_energy}
use Rattle.candidate_split.proofs.settling.of_least_energy.Goals as goal
use Rattle.candidate_split.proofs.settling.of_least_energy.Goals.{then-energy-least, else-energy-least}

pub loop-i-preserved : goal.loop-i-preserved
loop-i-preserved c =
    let f : ℕ → ℤ = λ k. upper_energy (numbers_of c.args.params.now.case) (box_of c.args.x.now) (slice_index c.args.places.now.items k) in
    let i = c.loop-i.i in
    let before = c.loop-i.invariant in
    let same : to_z w128 (of_z w128 c.energy_at-energy.result) ≡ f i = back c.energy_at-energy.result (omega (arith, c.energy_at-energy.ensures.small)) ∙ c.energy_at-energy.ensures.value in
    elim c.if-energy-least.branch [
      | then-energy-least w ↦
          rw (w.best-is, w.least-is) (record {
            there = omega arith;
            energy = same;
            least = below_more (λ k. to_z w128 (of_z w128 c.energy_at-energy.result) ≤ℤ f k) i (λ k h. omega (arith, ints, before.least k h, w.if-energy-least)) (omega (arith, ints, same));
          })
      | else-energy-least w ↦
          rw (w.best-is, w.least-is) (record {
            there = before.there;
            energy = before.energy;
            least = below_more (λ k. to_z w128 c.loop-i.least-bits ≤ℤ f k) i before.least (omega (arith, ints, same, w.if-energy-least));
          })
    ]

pub returns-clause-least : goal.returns-clause-least
returns-clause-least c =
    let f : ℕ → ℤ = λ y. upper_energy (numbers_of c.args.params.now.case) (box_of c.args.x.now) y in
    let best : ℕ = slice_index c.deref-2.result.now c.loop-i.best in
    All-from_get_or (λ y. f best ≤ℤ f y) c.args.places.now.items 0
    (λ k h. rw c.deref-2.ensures.0 (omega (arith, ints, c.loop-i.invariant.energy, c.loop-i.invariant.least k (omega (arith, h)))))
