use Rattle.std.proofs.Common.{length, inl, inr, arith}
use Rattle.std.specs.List.{Contains}
use Rattle.std.proofs.lemmas.Bool.{cases_lt}
use Rattle.std.proofs.lemmas.List.Elements.{All-push}
use Rattle.candidate_split.proofs.choosing.chosen.Goals as goal
use Rattle.candidate_split.proofs.choosing.chosen.Goals.{in-Some, in_default}

pub loop-round-preserved : goal.loop-round-preserved
loop-round-preserved c =
    let before = c.loop-round.invariant in
    let old = c.loop-round.chosen.items in
    let points = c.args.points.now.items in
    elim c.match-next.branch [
      | in-Some w ↦
          rw w.chosen-is (record {
            few = omega (arith, w.push.ensures.len, before.few);
            some = λ _ _. omega (arith, w.push.ensures.len);
            theirs = rw w.push.ensures.items (All-push (Contains points) old w.in-Some.near before.theirs w.in-Some.ensures.theirs);
          })
      | in_default w ↦
          rw w.chosen-is (record {
            few = omega (arith, before.few);
            some = λ _ there. elim (cases_lt 0 (length old)) [
              | inl some ↦ some
              | inr none ↦ let h = w.in_default.ensures.first (omega (arith, none)) there in cc h
            ];
            theirs = before.theirs;
          })
    ]
