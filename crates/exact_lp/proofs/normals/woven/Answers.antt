use Rattle.std.proofs.Common.{◌≡◌, ◌^◌, ℤ, pos, ◌+ℤ◌, arith, unsigned_abs, FitsSigned, rules, ◌∙◌}
use Rattle.std.specs.Int.{w128}
use Rattle.std.proofs.lemmas.Int.{ints}
use Rattle.exact_lp.proofs.MachineNumbers.{read, product_small}
use Rattle.exact_lp.proofs.normals.woven.Goals as goal

and_nothing : (x : ℤ) → x +ℤ pos 0 ≡ x
and_nothing x = omega (arith, ints)

pub sum_of_products-requires : goal.sum_of_products-requires
sum_of_products-requires c =
    rw (read c.args.a c.ranges.a, read c.args.b c.ranges.b, read c.args.c c.ranges.c)
    (omega (arith, product_small (unsigned_abs c.args.a) c.args.x (2 ^ 40) c.requires.a_small, product_small (unsigned_abs c.args.b) c.args.y (2 ^ 40) c.requires.b_small, product_small (unsigned_abs c.args.c) c.args.z (2 ^ 40) c.requires.c_small, c.requires.light))

pub returns-clause-value : goal.returns-clause-value
returns-clause-value c =
    let f : FitsSigned w128 c.sum_of_products.result = search rules in
    let e = rw (read c.args.a c.ranges.a, read c.args.b c.ranges.b, read c.args.c c.ranges.c) at c.sum_of_products.ensures.value in
    rw (read c.sum_of_products.result f) (e ∙ and_nothing _)

pub returns-clause-small : goal.returns-clause-small
returns-clause-small c =
    let f : FitsSigned w128 c.sum_of_products.result = search rules in
    let e = rw (read c.args.a c.ranges.a, read c.args.b c.ranges.b, read c.args.c c.ranges.c) at c.sum_of_products.ensures.small in
    rw (read c.sum_of_products.result f)
    (omega (arith, e, product_small (unsigned_abs c.args.a) c.args.x (2 ^ 40) c.requires.a_small, product_small (unsigned_abs c.args.b) c.args.y (2 ^ 40) c.requires.b_small, product_small (unsigned_abs c.args.c) c.args.z (2 ^ 40) c.requires.c_small, c.requires.light))
