use Rattle.std.proofs.Common.{◌≡◌, ◌+◌, ◌-◌, ◌*◌, ◌^◌, ◌≤◌, arith}
use Rattle.std.specs.Int.{w128}
use Rattle.std.proofs.lemmas.Int.{ints, to_z_pos}
use Rattle.log_laws.specs.Roots.{ceiling_from}
use Rattle.root_enclose.proofs.Squares.{IsFloorRootOver, floor_root_of_calls, ceiling_fits, ceiling_exact, ceiling_inexact, floor-le-ceiling, ceiling_covers}
use Rattle.root_enclose.proofs.enclosure.root_iv.Goals as goal
use Rattle.root_enclose.proofs.enclosure.root_iv.Goals.{then-floor-den, else-floor-den}

pub invariant_of-result : goal.invariant_of-result
invariant_of-result c =
    let n = c.args.num * 4 ^ c.args.scale in
    let r = c.from-floor.result in
    let k = c.if-floor-den.ceiling in
    let floor : IsFloorRootOver r n c.args.den =
    floor_root_of_calls r c.isqrt.result c.scaled-scaled.result n c.args.den c.requires.positive
    c.from-floor.ensures c.scaled-scaled.ensures c.isqrt.ensures.square c.isqrt.ensures.next_square in
    let e : k ≡ ceiling_from r n c.args.den = elim c.if-floor-den.branch [
      | then-floor-den w ↦ ceiling_exact r n c.scaled-scaled.result c.args.den k c.scaled-scaled.ensures w.if-floor-den.true w.ceiling-is
      | else-floor-den w ↦ ceiling_inexact r n c.scaled-scaled.result c.args.den k c.scaled-scaled.ensures w.if-floor-den.false w.ceiling-is
    ] in
    let small : k ≤ 2 ^ 62 - 1 =
    rw e (ceiling_fits r n c.args.den (2 ^ 62 - 1) c.requires.positive floor c.requires.ends_fit) in
    let order : r ≤ k = rw e (floor-le-ceiling r n c.args.den) in
    record {
      ordered = omega (arith, ints, small, order);
      lo_small = omega (arith, ints, small, order);
      hi_small = omega (arith, ints, small, order);
    }

pub returns-clause-next_square : goal.returns-clause-next_square
returns-clause-next_square c =
    let n = c.args.num * 4 ^ c.args.scale in
    let r = c.from-floor.result in
    let floor : IsFloorRootOver r n c.args.den =
    floor_root_of_calls r c.isqrt.result c.scaled-scaled.result n c.args.den c.requires.positive
    c.from-floor.ensures c.scaled-scaled.ensures c.isqrt.ensures.square c.isqrt.ensures.next_square in
    rw (to_z_pos w128 r (omega (arith, c.from-floor.ensures))) floor.next

pub returns-clause-covers : goal.returns-clause-covers
returns-clause-covers c =
    let n = c.args.num * 4 ^ c.args.scale in
    let r = c.from-floor.result in
    let k = c.if-floor-den.ceiling in
    let floor : IsFloorRootOver r n c.args.den =
    floor_root_of_calls r c.isqrt.result c.scaled-scaled.result n c.args.den c.requires.positive
    c.from-floor.ensures c.scaled-scaled.ensures c.isqrt.ensures.square c.isqrt.ensures.next_square in
    let e : k ≡ ceiling_from r n c.args.den = elim c.if-floor-den.branch [
      | then-floor-den w ↦ ceiling_exact r n c.scaled-scaled.result c.args.den k c.scaled-scaled.ensures w.if-floor-den.true w.ceiling-is
      | else-floor-den w ↦ ceiling_inexact r n c.scaled-scaled.result c.args.den k c.scaled-scaled.ensures w.if-floor-den.false w.ceiling-is
    ] in
    let small : k ≤ r + 1 = elim c.if-floor-den.branch [
      | then-floor-den w ↦ omega (arith, w.ceiling-is)
      | else-floor-den w ↦ omega (arith, w.ceiling-is)
    ] in
    rw (to_z_pos w128 k (omega (arith, small, c.from-floor.ensures)), e) (ceiling_covers r n c.args.den floor)
