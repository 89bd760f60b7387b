use Rattle.std.proofs.Common.{◌<◌, ◌≤◌, slice_index, add-one, ◌∙◌, arith}
use Rattle.candidate_split.specs.Grid.{first_greatest}
use Rattle.candidate_split.proofs.Greatest.{greatest_none, greatest_next, greatest_stays}
use Rattle.candidate_split.proofs.grid.greatest.Goals as goal
use Rattle.candidate_split.proofs.grid.greatest.Goals.{then-fractions-most, else-fractions-most}

pub loop-i-init : goal.loop-i-init
loop-i-init c = record { most = greatest_none c.args.fractions.now; inside = omega arith }

pub loop-i-preserved : goal.loop-i-preserved
loop-i-preserved c =
    let xs = c.args.fractions.now in
    let i = c.loop-i.i in
    let same = c.loop-i.invariant.most in
    elim c.if-fractions-most.branch [
      | then-fractions-most w ↦
          let more : slice_index xs (first_greatest i xs) < slice_index xs i = rw (← same) (omega (arith, w.if-fractions-most)) in
          record { most = rw (w.most-is, add-one i) (greatest_next xs i more); inside = omega arith }
      | else-fractions-most w ↦
          let less : slice_index xs i ≤ slice_index xs (first_greatest i xs) = rw (← same) (omega (arith, w.if-fractions-most)) in
          record { most = rw (w.most-is, add-one i) (same ∙ greatest_stays xs i less); inside = omega arith }
    ]
