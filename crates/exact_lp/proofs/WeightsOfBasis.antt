-- The weights of a basis make one mole.
use Rattle.std.proofs.Common.{◌≡◌, ℕ, ◌*◌, ◌^◌, ◌<◌, ◌≤◌, List, pos, ◌*ℤ◌, slice_index, sym, ap, ◌∙◌, arith}
use Rattle.log_laws.specs.Sums.{sum_below}
use Rattle.log_laws.proofs.Exports.{natural_product, le-sum_below, sum-same, sum-whole}
use Rattle.case_types.specs.declared.cases.Case.{Case}
use Rattle.case_types.specs.declared.rounds.Column.{Column}
use Rattle.energy_surface.specs.Program.Bases.{system, feed_of, AreColumns, IsBasis}
use Rattle.energy_surface.specs.Program.Solutions.{size, amount}
use Rattle.energy_surface.specs.Program.Splits.{weight_of}
use Rattle.exact_lp.proofs.LeavingPlace.{rows_weigh}
use Rattle.exact_lp.proofs.SplitOfBasis.{pos_same}
use Rattle.exact_lp.proofs.WeighedAmounts.{amounts_weigh}

pub weights_add_up : (c : Case) (cols : List Column) (at : List ℕ) → AreColumns c.n cols → IsBasis c cols at →
    sum_below c.n (λ k. weight_of c cols at k * 2 ^ 20) ≡ c.total * size c.n (system cols at)
weights_add_up c cols at good basis =
    pos_same (sum_below c.n (λ k. weight_of c cols at k * 2 ^ 20)) (c.total * size c.n (system cols at))
    (sym (sum-whole c.n (λ k. weight_of c cols at k * 2 ^ 20))
    ∙ sum-same c.n (λ k. pos (weight_of c cols at k * 2 ^ 20)) (λ k. amount c.n (system cols at) (feed_of c) k *ℤ pos (2 ^ 20))
    (λ k h. sym (natural_product (amount c.n (system cols at) (feed_of c) k) (2 ^ 20) (basis.feeds k h)))
    ∙ amounts_weigh c.n c.some c.few (system cols at) (feed_of c) (pos (2 ^ 20)) (rows_weigh c cols at good basis)
    ∙ ap (λ t. pos (size c.n (system cols at)) *ℤ t) (sum-whole c.n (slice_index c.z) ∙ ap pos c.added)
    ∙ ap pos (turned (size c.n (system cols at)) c.total))
  where
    turned : (s t : ℕ) → s * t ≡ t * s
    turned s t = omega arith

pub weight_within : (c : Case) (cols : List Column) (at : List ℕ) → AreColumns c.n cols → IsBasis c cols at → (k : ℕ) → k < c.n →
    weight_of c cols at k * 2 ^ 20 ≤ c.total * size c.n (system cols at)
weight_within c cols at good basis k h =
    omega (arith, weights_add_up c cols at good basis, le-sum_below c.n k (λ k. weight_of c cols at k * 2 ^ 20) h)
