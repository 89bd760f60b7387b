use Rattle.std.proofs.Common.{◌≡◌, ◌^◌, [], ◌∷◌, refl, arith}
use Rattle.std.proofs.lemmas.Bool.{lt-ltb, le-leb}
use Rattle.case_types.specs.declared.phases.Phase.{Phase}
use Rattle.case_types.specs.Ranges.{are_parts, is_packing}
use Rattle.case_types.proofs.Exports.{total_positive}
use Rattle.split_energies.specs.Feeds.{feed_phase}
use Rattle.split_energies.proofs.FeedPhase.{feed_has_parts, one_passes}
use Rattle.split_energies.proofs.feeds.one_phase.Goals as goal

pub invariant_of-result : goal.invariant_of-result
invariant_of-result c =
    let v = c.args.case.now in
    let phase = feed_phase v c.args.packing in
    let items : c.push.new.self.items ≡ phase ∷ [] = rw (c.new-phases.ensures, c.feed_as_phase.ensures) at c.push.ensures.items in
    record {
      positive = omega (arith, total_positive v);
      small = omega (arith, v.total_high);
      some = rw items (omega arith);
      parted = rw items (one_passes (λ (f : Phase). are_parts f.parts) phase (feed_has_parts v c.args.packing));
      packed = rw items (one_passes (λ (f : Phase). is_packing f.packing) phase (rw (le-leb 1 c.args.packing c.requires.some, lt-ltb c.args.packing (2 ^ 40) c.requires.inside) refl));
    }
