use Rattle.std.proofs.Common.{◌≡◌, arith, ◌*ℤ◌}
use Rattle.log_laws.proofs.Exports.{back}
use Rattle.fix_interval.specs.Extremes.{least_product, greatest_product}
use Rattle.fix_interval.proofs.Corners.{least-le-greatest}
use Rattle.fix_interval.proofs.Wrapped.{product_is, least_is, greatest_is, least_product_small, greatest_product_small}
use Rattle.fix_interval.proofs.extremes.product_extremes.Goals as goal

pub returns-clause-least : goal.returns-clause-least
returns-clause-least c =
    let a = c.args.a in
    let b = c.args.b in
    let found = least_is c.product-ll.result c.product-lh.result c.product-hl.result c.product-hh.result
    c.min.result c.min-2.result c.min-least.result
    c.product-ll.ensures.small c.product-lh.ensures.small c.product-hl.ensures.small c.product-hh.ensures.small
    c.min.ensures.value c.min-2.ensures.value c.min-least.ensures.value in
    let e : c.min-least.result ≡ least_product a b = rw (
      product_is a.lo b.lo c.product-ll.result a.lo_small b.lo_small c.product-ll.ensures.value,
      product_is a.lo b.hi c.product-lh.result a.lo_small b.hi_small c.product-lh.ensures.value,
      product_is a.hi b.lo c.product-hl.result a.hi_small b.lo_small c.product-hl.ensures.value,
      product_is a.hi b.hi c.product-hh.result a.hi_small b.hi_small c.product-hh.ensures.value,
    ) at found in
    rw e (back (least_product a b) (omega (arith, least_product_small a b)))

pub returns-clause-greatest : goal.returns-clause-greatest
returns-clause-greatest c =
    let a = c.args.a in
    let b = c.args.b in
    let found = greatest_is c.product-ll.result c.product-lh.result c.product-hl.result c.product-hh.result
    c.max.result c.max-2.result c.max-greatest.result
    c.product-ll.ensures.small c.product-lh.ensures.small c.product-hl.ensures.small c.product-hh.ensures.small
    c.max.ensures.value c.max-2.ensures.value c.max-greatest.ensures.value in
    let e : c.max-greatest.result ≡ greatest_product a b = rw (
      product_is a.lo b.lo c.product-ll.result a.lo_small b.lo_small c.product-ll.ensures.value,
      product_is a.lo b.hi c.product-lh.result a.lo_small b.hi_small c.product-lh.ensures.value,
      product_is a.hi b.lo c.product-hl.result a.hi_small b.lo_small c.product-hl.ensures.value,
      product_is a.hi b.hi c.product-hh.result a.hi_small b.hi_small c.product-hh.ensures.value,
    ) at found in
    rw e (back (greatest_product a b) (omega (arith, greatest_product_small a b)))

pub returns-clause-least_small : goal.returns-clause-least_small
returns-clause-least_small c = rw (returns-clause-least c) (least_product_small c.args.a c.args.b)

pub returns-clause-greatest_small : goal.returns-clause-greatest_small
returns-clause-greatest_small c = rw (returns-clause-greatest c) (greatest_product_small c.args.a c.args.b)

pub returns-clause-ordered : goal.returns-clause-ordered
returns-clause-ordered c =
    rw (returns-clause-least c, returns-clause-greatest c)
    (least-le-greatest (c.args.a.lo *ℤ c.args.b.lo) (c.args.a.lo *ℤ c.args.b.hi) (c.args.a.hi *ℤ c.args.b.lo) (c.args.a.hi *ℤ c.args.b.hi))
