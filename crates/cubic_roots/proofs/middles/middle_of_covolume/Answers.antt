use Rattle.std.proofs.Common.{◌*◌, ap, arith}
use Rattle.std.proofs.lemmas.Int.{ints}
use Rattle.log_laws.specs.Between.{Ends}
use Rattle.cubic_roots.specs.Pressures.{middle_covolume}
use Rattle.cubic_roots.proofs.MiddleEnds.{middle_read}
use Rattle.cubic_roots.proofs.middles.middle_of_covolume.Goals as goal

pub returns-clause-value : goal.returns-clause-value
unfolding middle_covolume
returns-clause-value c =
    let v = c.b_range-ends.result in
    let low = c.b_range-ends.ensures.low in
    let high = c.b_range-ends.ensures.high in
    let order = v.ordered in
    let ends = c.b_range-ends.ensures.ends in
    let read = middle_read v.lo v.hi (2 * c.volume_scale.result) c.middle_at_scale.result (omega (arith, ints, low)) (omega (arith, ints, order, high))
    (omega (arith, ints, low, order)) high c.middle_at_scale.ensures.value in
    rw (ap (λ (e : Ends). e.lo) ends, ap (λ (e : Ends). e.hi) ends, c.volume_scale.ensures.value) at read
