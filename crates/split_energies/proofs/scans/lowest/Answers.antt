use Rattle.std.proofs.Common.{◌≡◌, ◌-◌, ◌≤◌, length, ◌≤ℤ◌, refl, arith}
use Rattle.std.proofs.lemmas.Int.{ints}
use Rattle.std.proofs.Math.ListN.{get_or}
use Rattle.std.proofs.Math.Seq.{drop-length}
use Rattle.case_types.specs.Arithmetic.Bounds.{Box}
use Rattle.split_energies.specs.Scanned.{state_at, lowest_of}
use Rattle.split_energies.proofs.ScanSteps.{lower_taken, lower_stays, lowest_more, lower_small}
use Rattle.split_energies.proofs.scans.lowest.Goals as goal
use Rattle.split_energies.proofs.scans.lowest.Goals.{After-state-next}

pub loop-k-init : goal.loop-k-init
unfolding lowest_of
loop-k-init g c = λ x m. (rw (c.len-k.ensures.value, drop-length c.args.packings.now.items) refl, c.requires.small)

module _ (g : _) (c : After-state-next g) (x : Box) (m : g.S.Surface.is_mix_up c.args.surface.now x c.args.mix.now) where
  inside : c.loop-k.k ≤ length c.args.packings.now.items
  inside = omega (arith, c.loop-k.auto.k, c.len-k.ensures.value)

  at : c.state-next.result ≡ state_at (g.S.Surface.bounds c.args.surface.now) x (get_or c.args.packings.now.items (c.loop-k.k - 1) 0)
  at = rw c.deref.ensures.0 at c.state-next.ensures.at x m

pub loop-k-preserved-then-next-best : goal.loop-k-preserved-then-next-best
loop-k-preserved-then-next-best g c = λ x m.
    let here = (goal.at.loop-k-preserved-then-next-best g c).After-state-next in
    let s = g.S.Surface.bounds c.args.surface.now in
    let ys = c.args.packings.now.items in
    let before = c.loop-k.invariant x m in
    let next = c.state-next.result in
    let lower : next.up ≤ℤ c.loop-k.best.up = omega (arith, ints, c.if-next-best.true, c.state-next.ensures.small, before.1) in (
      lowest_more s x ys c.loop-k.k _ c.args.last c.loop-k.best next c.loop-k-test.true (inside g here x m) refl before.0
          (lower_taken s x _ next c.loop-k.best (at g here x m) lower),
      lower_small next.up c.loop-k.best.up (c.state-next.ensures.not_deep x m) lower before.1,
    )

pub loop-k-preserved : goal.loop-k-preserved
loop-k-preserved g c = λ x m.
    let here = (goal.at.loop-k-preserved g c).After-state-next in
    let s = g.S.Surface.bounds c.args.surface.now in
    let ys = c.args.packings.now.items in
    let before = c.loop-k.invariant x m in
    let next = c.state-next.result in (
      lowest_more s x ys c.loop-k.k _ c.args.last c.loop-k.best c.loop-k.best c.loop-k-test.true (inside g here x m) refl before.0
          (lower_stays s x _ next c.loop-k.best (at g here x m) (omega (arith, ints, c.if-next-best.false, c.state-next.ensures.small, before.1))),
      before.1,
    )
