use Rattle.std.proofs.Common.{◌≡◌, ◌∙◌, ◌-◌, ◌<◌, ◌^◌, unsigned_abs, ◌-ℤ◌, arith, to_z, of_z, slice_index}
use Rattle.std.specs.Int.{w128, int_min}
use Rattle.log_laws.specs.Linear.{affine_high}
use Rattle.log_laws.proofs.Exports.{back}
use Rattle.case_types.specs.Arithmetic.Bounds.{box_of, potential, plane_high}
use Rattle.case_types.proofs.Exports.{plane_at_most}
use Rattle.density_boxes.proofs.PlaneEnds.{plane_is, plane_small}
use Rattle.density_boxes.proofs.planes.plane_hi.Goals as goal
use Rattle.density_boxes.proofs.planes.plane_hi.Goals.{After-min}

-- the plane by its last potential is that of the definition
from_last_is : (c : After-min) → c.affine_high.result ≡
    affine_high (c.args.n - 1) (potential c.args.plane.now.lam (c.args.n - 1)) (λ i. potential c.args.plane.now.lam i -ℤ potential c.args.plane.now.lam (c.args.n - 1))
    (slice_index c.args.x.now.a) (slice_index c.args.x.now.b)
from_last_is c =
    let p = c.potential-last.ensures.small in
    rw (back c.potential-last.result (omega (arith, p)), c.potential-last.ensures.value) at c.affine_high.ensures.value

-- the result is the lesser of the two
lesser_is : (c : After-min) → c.min.result ≡ int_min c.greatest.result c.affine_high.result
lesser_is c =
    let g = c.greatest.ensures.small in
    let f = c.affine_high.ensures.small in
    rw (back c.greatest.result (omega (arith, g)), back c.affine_high.result (omega (arith, f))) at c.min.ensures.value

small : (c : After-min) → unsigned_abs c.min.result < 2 ^ 80
small c =
    rw (lesser_is c)
    (plane_small c.args.n c.args.plane.now.lam (box_of c.args.x.now) c.greatest.result c.affine_high.result c.requires.one c.requires.four
    c.args.plane.now.small c.args.x.now.not_above c.greatest.ensures.small (from_last_is c))

-- what the code reads is the upper end
value_is : (c : After-min) → to_z w128 (of_z w128 c.min.result) ≡ plane_high c.args.n c.args.plane.now.lam (box_of c.args.x.now)
value_is c =
    back c.min.result (omega (arith, small c)) ∙ lesser_is c
    ∙ plane_is c.args.n c.args.plane.now.lam (box_of c.args.x.now) c.greatest.result c.affine_high.result c.greatest.ensures.value (from_last_is c)

pub returns-clause-value : goal.returns-clause-value
returns-clause-value c = value_is c

pub returns-clause-above : goal.returns-clause-above
returns-clause-above c = λ f inside. rw (value_is c) (plane_at_most c.args.n c.args.plane.now.lam (box_of c.args.x.now) f inside)

pub returns-clause-small : goal.returns-clause-small
returns-clause-small c = rw (back c.min.result (omega (arith, small c))) (small c)
