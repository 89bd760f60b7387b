-- The numbers of a lawful answer are small.
use Rattle.std.proofs.Common.{◌≡◌, ℕ, ◌^◌, ◌<◌, ◌≤◌, ℤ, pos, neg_ℤ, ◌-ℤ◌, ◌≤ℤ◌, unsigned_abs, subst, arith}
use Rattle.std.proofs.lemmas.Int.{ints}
use Rattle.case_types.specs.declared.planes.Plane.{Plane}
use Rattle.case_types.specs.Arithmetic.Bounds.{plane_at, potential}
use Rattle.case_types.specs.Arithmetic.Numbers.{numbers_of}
use Rattle.pr_surface.specs.PengRobinson.{surface_of}
use Rattle.answer_sizes.specs.Sizes.{AnswersAreSmall}
use Rattle.answer_sizes.proofs.AnySurface.{upper_small}
use Rattle.answer_sizes.proofs.LowAbove.{last_low_least}
use Rattle.answer_sizes.proofs.LowBelow.{low_at_most}
use Rattle.answer_sizes.proofs.PlaneOver.{plane_at_feed_small}
use Rattle.answer_sizes.proofs.PlaneSize.{last_plane_small}
use Rattle.energy_surface.specs.Rounds.{own_of}

record AreSmall (u low gap : ℤ) : Type 0 where
  u_small : unsigned_abs u < 2 ^ 80
  low_small : unsigned_abs low < 2 ^ 80
  gap_small : unsigned_abs gap < 2 ^ 80

sizes : (u p low gap : ℤ) → unsigned_abs u ≤ 2 ^ 51 → unsigned_abs p ≤ 2 ^ 70 → neg_ℤ (pos (2 ^ 71)) ≤ℤ low → low ≤ℤ (u -ℤ p) → gap ≡ (u -ℤ p) -ℤ low → AreSmall u low gap
sizes u p low gap hu hp below above e = record {
  u_small = omega (arith, hu);
  low_small = omega (arith, ints, hu, hp, below, above);
  gap_small = omega (arith, ints, hu, hp, below, above, e);
}

pub answers_are_small : AnswersAreSmall
answers_are_small c tol budget a within few accepted h =
    let are = sizes a.u (plane_at c.n a.plane.lam c.z c.total) a.low a.gap upper (plane_at_feed_small c a.plane.lam (2 ^ 70) small) low (low_at_most c tol budget a accepted h.answer) h.answer.gap in
    record { u = are.u_small; low = are.low_small; gap = are.gap_small }
  where
    small : (i : ℕ) → unsigned_abs (potential a.plane.lam i) ≤ 2 ^ 70
    small = last_plane_small (surface_of (numbers_of c)) c tol a.units a.work h.basis a.plane a.u h.found h.answer.components (omega (arith, h.answer.within, within)) h.work

    upper : unsigned_abs a.u ≤ 2 ^ 51
    upper = upper_small (surface_of (numbers_of c)) c tol budget a few h

    low : neg_ℤ (pos (2 ^ 71)) ≤ℤ a.low
    low =
        last_low_least c tol h.work.start (own_of a.work h.work.start h.work.last) h.work.last h.basis h.found a.low accepted
        (subst (λ (t : Plane). (i : ℕ) → unsigned_abs (potential t.lam i) ≤ 2 ^ 70) h.work.plane small) h.low h.work.ends
