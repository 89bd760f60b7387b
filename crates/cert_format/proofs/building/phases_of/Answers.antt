use Rattle.std.proofs.Common.{◌≡◌, ◌∙◌, ◌++◌, ◌∷◌, [], ℕ, sym, refl, arith, map}
use Rattle.std.specs.List.{range_with_len}
use Rattle.std.proofs.lemmas.List.FromFn.{map-range_with_len_more}
use Rattle.case_types.specs.declared.phases.Phase.{Phase}
use Rattle.cert_format.specs.Building.{phase_on}
use Rattle.cert_format.proofs.building.phases_of.Goals as goal

pub loop-k-preserved : goal.loop-k-preserved
loop-k-preserved c =
    let f : ℕ → Phase = phase_on c.args.lines.now in
    let same : c.loop-k.phases.items ++ c.phase_of.result ∷ [] ≡ map f (range_with_len 0 c.loop-k.k) ++ f c.loop-k.k ∷ [] =
    rw (c.loop-k.invariant.made, c.phase_of.ensures) refl in
    record {
      made = c.push.ensures.items ∙ same ∙ sym (map-range_with_len_more f 0 c.loop-k.k c.loop-k.k (omega arith));
      count = omega (arith, c.push.ensures.len, c.loop-k.invariant.count);
      few = c.loop-k.invariant.few;
      reached = omega (arith, c.loop-k-test.true);
      total = c.loop-k.invariant.total;
    }
