use Rattle.std.proofs.Common.{◌≡◌, to_z, of_z, FitsSigned, ap, ◌∙◌, arith, rules}
use Rattle.std.specs.Int.{w128}
use Rattle.energy_surface.specs.Program.Solutions.{signed_by}
use Rattle.energy_surface.specs.Program.Determinants.{determinant}
use Rattle.exact_lp.specs.Frames.{row_of, rows_in}
use Rattle.exact_lp.proofs.MachineNumbers.{read}
use Rattle.exact_lp.proofs.MinorRows.{in_first, in_second, in_third, in_fourth, weight_small}
use Rattle.exact_lp.proofs.frames.frame_of.Goals as goal

pub directed-requires : goal.directed-requires
directed-requires c = record { small = c.minors_of-first.ensures.small }

pub directed-requires-2 : goal.directed-requires-2
directed-requires-2 c = record { small = c.minors_of-second.ensures.small }

pub directed-requires-3 : goal.directed-requires-3
directed-requires-3 c = record { small = c.minors_of-third.ensures.small }

pub directed-requires-4 : goal.directed-requires-4
directed-requires-4 c = record { small = c.minors_of-fourth.ensures.small }

pub invariant_of-result : goal.invariant_of-result
invariant_of-result c =
    let f : FitsSigned w128 c.along-determinant.result = search rules in
    record {
      size_small = let v = rw (read c.along-determinant.result f) at c.unsigned_abs.ensures.value in omega (arith, v, c.along-determinant.ensures.small, weight_small c.minors_of-first.result.a c.args.a.now.x c.minors_of-first.ensures.small c.args.a.now.light);
      first_small = c.directed.ensures.small;
      second_small = c.directed-2.ensures.small;
      third_small = c.directed-3.ensures.small;
      fourth_small = c.directed-4.ensures.small;
    }

pub returns : goal.returns
returns c =
    let f : FitsSigned w128 c.along-determinant.result = search rules in
    let a = row_of c.args.a.now.x in
    let b = row_of c.args.b.now.x in
    let d = row_of c.args.c.now.x in
    let e = row_of c.args.d.now.x in
    let m = rows_in c.args.a.now.x c.args.b.now.x c.args.c.now.x c.args.d.now.x in
    let g : to_z w128 (of_z w128 c.along-determinant.result) ≡ determinant 4 m =
    read c.along-determinant.result f ∙ c.along-determinant.ensures.value ∙ c.minors_of-first.ensures.normal a in
    record {
      size_is = rw g at c.unsigned_abs.ensures.value;
      first = λ x. rw g at (c.directed.ensures.signed x) ∙ ap (signed_by (determinant 4 m)) (c.minors_of-first.ensures.normal x ∙ in_first a b d e x);
      second = λ x. rw g at (c.directed-2.ensures.signed x) ∙ ap (signed_by (determinant 4 m)) (c.minors_of-second.ensures.normal x ∙ in_second a b d e x);
      third = λ x. rw g at (c.directed-3.ensures.signed x) ∙ ap (signed_by (determinant 4 m)) (c.minors_of-third.ensures.normal x ∙ in_third a b d e x);
      fourth = λ x. rw g at (c.directed-4.ensures.signed x) ∙ ap (signed_by (determinant 4 m)) (c.minors_of-fourth.ensures.normal x ∙ in_fourth a b d e x);
    }
