use Rattle.std.proofs.Common.{◌≡◌, slice_index, sym, arith}
use Rattle.std.specs.Prelude.{nat_lt}
use Rattle.std.proofs.lemmas.Bool.{lt-ltb, le-ltb}
use Rattle.log_laws.proofs.Exports.{all_below-more, all_below-fails}
use Rattle.tangent_bound.proofs.slope_parts.has_each.Goals as goal

pub returns-then-middle_of-eq0 : goal.returns-then-middle_of-eq0
returns-then-middle_of-eq0 c =
    let part = slice_index c.args.x.now.middle c.loop-i.i in
    sym (all_below-fails c.args.n (λ i. nat_lt 0 (slice_index c.args.x.now.middle i)) c.loop-i.i c.loop-i-test.true
    (le-ltb 0 part (omega (arith, c.middle_of.ensures.value, c.if-middle_of-eq0.true))))

pub loop-i-preserved : goal.loop-i-preserved
loop-i-preserved c =
    let part = slice_index c.args.x.now.middle c.loop-i.i in
    all_below-more c.loop-i.i (λ i. nat_lt 0 (slice_index c.args.x.now.middle i)) c.loop-i.invariant (lt-ltb 0 part (omega (arith, c.middle_of.ensures.value, c.if-middle_of-eq0.false)))

pub returns : goal.returns
returns c = let end : c.loop-i.i ≡ c.args.n = omega arith in sym (rw end at c.loop-i.invariant)
