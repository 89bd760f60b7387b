use Rattle.std.proofs.Common.{◌<◌, ◌≤◌, length, sym, subst, arith, length-append}
use Rattle.std.proofs.lemmas.List.Elements.{All-append}
use Rattle.case_types.specs.declared.phases.Split.{Split}
use Rattle.case_types.specs.Arithmetic.Numbers.{numbers_of}
use Rattle.energy_surface.specs.Columns.{IsColumn}
use Rattle.pr_surface.specs.PengRobinson.{surface_of}
use Rattle.plane_rounds.proofs.guesses.columns_near.Goals as goal

pub loop-k-preserved : goal.loop-k-preserved
loop-k-preserved c =
    let s = surface_of (numbers_of c.args.surface.now.params.now.case) in
    let splits = c.args.splits.now.items in
    let split = c.index-deref-k.result in
    let inside : c.loop-k.k < length splits = omega (arith, c.loop-k-test.true, c.len-k-end.ensures.value) in
    let two : length split.phases.items ≤ 2 = subst (λ (x : Split). length x.phases.items ≤ 2) (sym (rw c.deref.ensures.0 at c.index-deref-k.is)) (c.requires c.loop-k.k split inside).few in
    rw c.put.ensures (record {
      each = All-append (IsColumn s) c.loop-k.columns.items c.columns_of.result.items c.loop-k.invariant.each c.columns_of.ensures.each;
      few = rw length-append (omega (arith, two, c.columns_of.ensures.few, c.loop-k.invariant.few));
    })
