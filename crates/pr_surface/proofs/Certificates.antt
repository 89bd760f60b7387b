-- What a certificate states makes its split certified: the surface bounds Peng and Robinson's energy.
use Rattle.std.proofs.Common.{◌≡◌, ℤ, ◌+ℤ◌, ◌-ℤ◌, sym, subst, arith}
use Rattle.std.proofs.lemmas.Int.{ints}
use Rattle.log_laws.specs.LogSum.{AtLeast, AtMost}
use Rattle.case_types.specs.Arithmetic.Bounds.{plane_at}
use Rattle.case_types.specs.Energy.Divisions.{bits, division_of, energy_of_division}
use Rattle.pr_params.proofs.Exports.{enclosures_right}
use Rattle.pr_surface.specs.Bounding.{CertificatesCertify}
use Rattle.pr_surface.proofs.SurfaceBound.{lows_certify, uppers_certify}

below_upper : (plane low u gap : ℤ) → gap ≡ (u -ℤ plane) -ℤ low → plane +ℤ low ≡ u -ℤ gap
below_upper plane low u gap e = omega (arith, ints, e)

pub certificates_certify : CertificatesCertify
certificates_certify c split u lam low gap h = record {
  right = enclosures_right c;
  divides = h.divides;
  at_most = λ x inst. subst (λ z. AtMost (energy_of_division c x (division_of split)) (bits z)) (sym h.upper) (uppers_certify c x split h.accepted inst h.divides);
  at_least = λ x inst other divides.
      subst (λ z. AtLeast (energy_of_division c x other) (bits z)) (below_upper (plane_at c.n lam c.z c.total) low u gap h.difference)
      (lows_certify c x lam low other h.accepted inst h.over divides);
}
