use Rattle.std.proofs.Common.{◌≡◌, ◌^◌, List, ℤ, slice_index, ap, ◌∙◌, arith}
use Rattle.std.proofs.lemmas.Option.{get_or_from_slice_get}
use Rattle.log_laws.specs.Sums.{sum_below}
use Rattle.energy_surface.specs.Program.Bases.{no_column, column_at, system}
use Rattle.exact_lp.specs.Frames.{entry}
use Rattle.exact_lp.proofs.LeavingPlace.{entry_amount, leaves_by}
use Rattle.exact_lp.proofs.pivoting.leaving.Goals as goal

pub live_point-requires-2-clause-light : goal.live_point-requires-2-clause-light
live_point-requires-2-clause-light c =
    let cols = c.args.columns.now.items in
    let e = get_or_from_slice_get cols c.args.enter c.get.result.now no_column c.get.ensures in
    let whole : sum_below c.args.case.now.n (slice_index c.get.result.now.comp) ≡ 2 ^ 20 = rw e at (c.requires.columns.points c.args.enter c.requires.inside).whole in
    omega (arith, whole)

pub returns : goal.returns
returns c =
    let cols = c.args.columns.now.items in
    let at = c.args.basis.now.at in
    let v = c.args.case.now in
    let f = c.basis_frame-frame.result in
    let e = get_or_from_slice_get cols c.args.enter c.get.result.now no_column c.get.ensures in
    let zs = rw c.live_point.ensures at c.amounts_for-for_feed.ensures in
    let xs = rw (c.live_point-2.ensures, ← e) at c.amounts_for-for_column.ensures in
    leaves_by v cols at c.args.enter c.best.result (entry c.amounts_for-for_feed.result.u) (entry c.amounts_for-for_column.result.u) c.requires.columns c.requires.basis c.requires.inside
    (λ k h. ap (λ (u : List ℤ). entry u k) zs ∙ entry_amount v.n v.some v.few (system cols at) f.size f.first.a f.second.a f.third.a f.fourth.a c.basis_frame-frame.ensures v.z k h)
    (λ k h. ap (λ (u : List ℤ). entry u k) xs ∙ entry_amount v.n v.some v.few (system cols at) f.size f.first.a f.second.a f.third.a f.fourth.a c.basis_frame-frame.ensures (column_at cols c.args.enter).comp k h)
    c.best.ensures
