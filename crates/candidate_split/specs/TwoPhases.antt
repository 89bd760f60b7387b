-- The feed in two phases, one of which has a share of it at a grid composition.
use Rattle.std.specs.Prelude.{ℕ, ◌-◌, ◌*◌, ◌^◌, ◌≡◌, ◌≤◌, List, [], ◌∷◌, ◌++◌, Bool, if◌then◌else◌, nat_lt, nat_le, slice_index}
use Rattle.log_laws.specs.Sums.{sum_below, all_below}
use Rattle.case_types.specs.declared.cases.Case.{Case}
use Rattle.case_types.specs.declared.phases.Phase.{Phase}
use Rattle.case_types.specs.declared.phases.Split.{Split}
use Rattle.split_energies.specs.Feeds.{feed_part}

-- fractions of n components in 2^-20 that add up to 1, and none of components that aren't there
pub record IsComposition (n : ℕ) (y : List ℕ) : Type 0 where
  pub whole : sum_below n (slice_index y) ≡ 2 ^ 20
  pub rest : (i : ℕ) → n ≤ i → slice_index y i ≡ 0

-- a mole of feed has total times 2^40 parts; the vapour has the share v of them, in 2^-20
abbrev pub vapour_part : Case → ℕ → List ℕ → ℕ → ℕ
vapour_part c v y i = v * slice_index y i * c.total

-- and the liquid has what it leaves
abbrev pub liquid_part : Case → ℕ → List ℕ → ℕ → ℕ
liquid_part c v y i = feed_part c i * 2 ^ 40 - vapour_part c v y i

abbrev pub vapour_phase : Case → ℕ → List ℕ → ℕ → Phase
vapour_phase c v y packing = record {
  parts = vapour_part c v y 0 ∷ vapour_part c v y 1 ∷ vapour_part c v y 2 ∷ vapour_part c v y 3 ∷ [];
  packing = packing;
}

abbrev pub liquid_phase : Case → ℕ → List ℕ → ℕ → Phase
liquid_phase c v y packing = record {
  parts = liquid_part c v y 0 ∷ liquid_part c v y 1 ∷ liquid_part c v y 2 ∷ liquid_part c v y 3 ∷ [];
  packing = packing;
}

-- no component has more parts in the vapour than in the feed
abbrev pub fits_feed : Case → ℕ → List ℕ → Bool
fits_feed c v y = all_below c.n (λ i. nat_le (vapour_part c v y i) (feed_part c i * 2 ^ 40))

-- a phase, where it has a share
abbrev pub present : Bool → Phase → List Phase
present has_share f = if has_share then f ∷ [] else []

-- the vapour first; a phase without a share of the feed is left out
abbrev pub vapour_and_liquid : Case → ℕ → List ℕ → ℕ → ℕ → List Phase
vapour_and_liquid c v y vapour liquid =
    present (nat_lt 0 v) (vapour_phase c v y vapour) ++ present (nat_lt v (2 ^ 20)) (liquid_phase c v y liquid)

pub record IsTwoPhase (c : Case) (v : ℕ) (y : List ℕ) (vapour liquid : ℕ) (s : Split) : Type 0 where
  pub sum : s.sum ≡ c.total * 2 ^ 40
  pub phases : s.phases.items ≡ vapour_and_liquid c v y vapour liquid
