use Rattle.std.proofs.Common.{sym, ◌∙◌, subst, arith}
use Rattle.std.proofs.lemmas.List.Elements.{All-drop}
use Rattle.surface_rounds.specs.Guessing.{IsGuess}
use Rattle.surface_rounds.proofs.FirstSplits.{rival_more, behind_more}
use Rattle.surface_rounds.proofs.rivals.rivals.Goals as goal

pub weighed-requires-clause-guess : goal.weighed-requires-clause-guess
weighed-requires-clause-guess g c =
    subst (IsGuess (g.S.Surface.bounds c.args.surface.now) c.args.case.now) (sym c.remove.ensures.value)
    (c.loop.invariant.guessed 0 c.remove.result (omega (arith, c.remove.ensures.len)))

pub loop-preserved : goal.loop-preserved
loop-preserved g c =
    let s = g.S.Surface.bounds c.args.surface.now in
    let case = c.args.case.now in
    let i = c.loop.invariant in
    record {
      rivals = rw c.push-in-loop.ensures.items (rival_more s case c.loop.list.items c.weighed.result i.rivals c.weighed.ensures.rival);
      guessed = rw c.remove.ensures.items (All-drop (IsGuess s case) 1 c.loop.guessed.items i.guessed);
      behind = rw (c.push-in-loop.ensures.items, c.remove.ensures.items) (behind_more c.loop.list.items c.weighed.result c.remove.result c.loop.guessed.items i.rivals.some c.weighed.ensures.split
          (omega (arith, c.remove.ensures.len)) c.remove.ensures.value ∙ i.behind);
      counted = omega (arith, c.push-in-loop.ensures.len, i.counted);
      left = omega (arith, c.remove.ensures.len, i.left);
    }
