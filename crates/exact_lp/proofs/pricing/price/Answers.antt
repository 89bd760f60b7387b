use Rattle.std.proofs.Common.{◌≡◌, ◌^◌, ◌<◌, length, slice_index, FitsSigned, inl, inr, ◌∙◌, arith, rules}
use Rattle.std.proofs.lemmas.Bool.{cases_lt}
use Rattle.std.specs.Int.{w128}
use Rattle.std.proofs.lemmas.Option.{get_or_from_slice_get}
use Rattle.log_laws.specs.Sums.{sum_below}
use Rattle.energy_surface.specs.Program.Bases.{no_column, column_at}
use Rattle.energy_surface.specs.Program.Pivots.{price_of}
use Rattle.exact_lp.proofs.LiveParts.{price_is}
use Rattle.exact_lp.proofs.MachineNumbers.{negative_by, not_negative_by}
use Rattle.exact_lp.proofs.AfterPivot.{spans_above}
use Rattle.exact_lp.proofs.pricing.price.Goals as goal

pub price_over-requires-clause-light : goal.price_over-requires-clause-light
price_over-requires-clause-light c =
    let cols = c.args.columns.now.items in
    let e = get_or_from_slice_get cols c.loop-j.j c.get.result.now no_column c.get.ensures in
    let less : c.loop-j.j < length cols = omega (arith, c.len-j-end.ensures) in
    let whole : sum_below c.args.case.now.n (slice_index c.get.result.now.comp) ≡ 2 ^ 20 = rw e at (c.requires.columns.points c.loop-j.j less).whole in
    omega (arith, whole)

pub price_over-requires-clause-cost : goal.price_over-requires-clause-cost
price_over-requires-clause-cost c =
    let cols = c.args.columns.now.items in
    let e = get_or_from_slice_get cols c.loop-j.j c.get.result.now no_column c.get.ensures in
    let less : c.loop-j.j < length cols = omega (arith, c.len-j-end.ensures) in
    rw e at (c.requires.columns.costs c.loop-j.j less)

pub returns-then-price_over-lt0 : goal.returns-then-price_over-lt0
returns-then-price_over-lt0 c =
    let cols = c.args.columns.now.items in
    let at = c.args.basis.now.at in
    let v = c.args.case.now in
    let f = c.basis_frame-frame.result in
    let e = get_or_from_slice_get cols c.loop-j.j c.get.result.now no_column c.get.ensures in
    let same = rw c.costs_of-costs.ensures at c.price_over.ensures in
    let is = price_is v.n v.some v.few cols at f.size f.first.a f.second.a f.third.a f.fourth.a c.basis_frame-frame.ensures c.get.result.now (spans_above v cols at c.requires.basis) in
    let price : c.price_over.result ≡ price_of v.n cols at (column_at cols c.loop-j.j) = rw e (same ∙ is) in
    let fits : FitsSigned w128 c.price_over.result = search rules in
    let down = negative_by c.price_over.result fits c.if-price_over-lt0.true in
    record {
      inside = omega (arith, c.len-j-end.ensures);
      cheaper = rw price at down;
      first = c.loop-j.invariant;
    }

pub loop-j-preserved : goal.loop-j-preserved
loop-j-preserved c i h =
    let cols = c.args.columns.now.items in
    let at = c.args.basis.now.at in
    let v = c.args.case.now in
    let f = c.basis_frame-frame.result in
    let e = get_or_from_slice_get cols c.loop-j.j c.get.result.now no_column c.get.ensures in
    let same = rw c.costs_of-costs.ensures at c.price_over.ensures in
    let is = price_is v.n v.some v.few cols at f.size f.first.a f.second.a f.third.a f.fourth.a c.basis_frame-frame.ensures c.get.result.now (spans_above v cols at c.requires.basis) in
    let price : c.price_over.result ≡ price_of v.n cols at (column_at cols c.loop-j.j) = rw e (same ∙ is) in
    let fits : FitsSigned w128 c.price_over.result = search rules in
    let up = not_negative_by c.price_over.result fits c.if-price_over-lt0.false in
    elim (cases_lt i c.loop-j.j) [
      | inl less ↦ c.loop-j.invariant i less
      | inr more ↦ let d : i ≡ c.loop-j.j = omega (arith, h, more) in rw d (rw price at up)
    ]

pub returns : goal.returns
returns c = λ j h. c.loop-j.invariant j (omega (arith, h, c.len-j-end.ensures))
