-- The parts of a feed.
use Rattle.std.proofs.Common.{ℕ, ◌<◌, ◌≤◌, nat_le, slice_index, arith}
use Rattle.std.proofs.lemmas.Bool.{leb-true}
use Rattle.log_laws.proofs.Exports.{le-sum_below, all_below-at}
use Rattle.case_types.specs.declared.cases.Case.{Case}
use Rattle.case_types.specs.Energy.Components.{feed}

-- each component has one
pub feed_at : (c : Case) (i : ℕ) → i < c.n → 1 ≤ feed c i
feed_at c i h = leb-true 1 (feed c i) (all_below-at c.n (λ i. nat_le 1 (slice_index c.z i)) i h c.live)

pub total_positive : (c : Case) → 0 < c.total
total_positive c =
    let live = feed_at c 0 c.some in
    let part = le-sum_below c.n 0 (slice_index c.z) c.some in
    omega (arith, live, part, c.added)
