-- Phases, divisions of a feed, and their energy.
use Rattle.std.specs.Prelude.{ℕ, zero, suc, ◌+◌, ◌*◌, ◌^◌, ◌<◌, ◌≡◌, List, [], ◌∷◌, map, ℤ, pos, ◌-ℤ◌, ◌<ℤ◌, slice_index}
use Rattle.std.specs.List.{All}
use Rattle.log_laws.specs.Fraction.{Fraction, IsFraction, whole, sum_of, difference, product_of, negated, quotient_of}
use Rattle.log_laws.specs.LogSum.{LogSum, AtLeast, AtMost, ratio, times_log, added, scaled, constant}
use Rattle.case_types.specs.declared.cases.Case.{Case}
use Rattle.case_types.specs.declared.phases.Phase.{Phase}
use Rattle.case_types.specs.declared.phases.Split.{Split}
use Rattle.case_types.specs.Energy.Components.{feed}
use Rattle.case_types.specs.Energy.Instances.{Instance, Enclosures, IsInstance, AreRight}
use Rattle.case_types.specs.Energy.Parameters.{covolume, attraction}
use Rattle.log_laws.specs.Sums.{sum_below, fraction_sum_below, log_sum_below}

-- ---- phases
-- whole parts of the components, and a packing
pub record State : Type 0 where
  pub parts : ℕ → ℕ
  pub packing : Fraction

-- how many parts the n components have
abbrev pub moles : ℕ → State → ℕ
moles n f = sum_below n f.parts

-- some part is there, and the packing is strictly between 0 and 1
pub record IsState (n : ℕ) (f : State) : Type 0 where
  pub some : 0 < moles n f
  pub is_fraction : IsFraction f.packing
  pub not_empty : pos 0 <ℤ f.packing.num
  pub not_full : f.packing.num <ℤ pos f.packing.den

-- a printed phase
abbrev pub state_of : Phase → State
state_of f = record { parts = slice_index f.parts; packing = ratio f.packing (2 ^ 40) }

-- ---- the energy of one mole
abbrev pub mole_fraction : ℕ → State → ℕ → Fraction
mole_fraction n f i = ratio (f.parts i) (moles n f)

-- B: the mean of the covolumes
abbrev pub mean_covolume : Case → State → Fraction
mean_covolume c f = fraction_sum_below c.n (λ i. product_of (mole_fraction c.n f i) (covolume c i))

-- A: the mean of the attractions over all pairs
abbrev pub mean_attraction : Case → Instance → State → Fraction
mean_attraction c x f =
    fraction_sum_below c.n (λ i. product_of (mole_fraction c.n f i)
    (fraction_sum_below c.n (λ j. product_of (mole_fraction c.n f j) (attraction c x i j))))

-- p of m parts: x log x, and nothing where there are none
abbrev pub mixing_of : ℕ → ℕ → LogSum
mixing_of zero m = constant (whole (pos 0))
mixing_of (suc p) m = times_log (ratio (suc p) m) (ratio (suc p) m)

abbrev pub mixing : ℕ → State → LogSum
mixing n f = log_sum_below n (λ i. mixing_of (f.parts i) (moles n f))

abbrev pub log_of : Fraction → LogSum
log_of a = times_log (whole (pos 1)) a

abbrev pub minus_log_of : Fraction → LogSum
minus_log_of a = times_log (negated (whole (pos 1))) a

-- log2 y + log2e B / y
abbrev pub volume_part : Fraction → Fraction → Fraction → LogSum
volume_part log_e b y = added (log_of y) (constant (quotient_of (product_of log_e b) y))

-- (1 + y + s y) / (1 + y - s y), for the root s of 2
abbrev pub attraction_argument : Fraction → Fraction → Fraction
attraction_argument s y =
    let above = sum_of (whole (pos 1)) y in
    quotient_of (sum_of above (product_of s y)) (difference above (product_of s y))

-- -A / (2 s B) times the logarithm of that
abbrev pub attraction_part : Fraction → Fraction → Fraction → Fraction → LogSum
attraction_part s a b y =
    times_log (negated (quotient_of a (product_of (product_of (whole (pos 2)) s) b))) (attraction_argument s y)

-- the reduced energy of one mole: Helmholtz energy plus pressure times volume
unfoldable pub energy_of : Case → Instance → State → LogSum
energy_of c x f =
    let b = mean_covolume c f in
    let a = mean_attraction c x f in
    added (mixing c.n f)
    (added (volume_part x.log_e b f.packing)
    (added (minus_log_of b)
    (added (minus_log_of (difference (whole (pos 1)) f.packing))
    (attraction_part x.root_two a b f.packing))))

-- ---- divisions
-- phases whose parts are counted in a sum that stands for one mole of feed
pub record Division : Type 0 where
  pub sum : ℕ
  pub phases : List State

-- how many parts of component i the phases have together
abbrev pub parts_in : List State → ℕ → ℕ
parts_in [] i = 0
parts_in (f ∷ fs) i = f.parts i + parts_in fs i

-- the phases add up to the feed
abbrev pub AddsUp : Case → Division → Type 0
AddsUp c d = (i : ℕ) → i < c.n → c.total * parts_in d.phases i ≡ feed c i * d.sum

-- the phases are phases, and add up to the feed
pub record Divides (c : Case) (d : Division) : Type 0 where
  pub positive : 0 < d.sum
  pub phases : All (IsState c.n) d.phases
  pub adds_up : AddsUp c d

abbrev pub division_of : Split → Division
division_of s = record { sum = s.sum; phases = map state_of s.phases.items }

-- the energies of the phases, each by its share of the sum
unfoldable pub energy_of_phases : ℕ → (State → LogSum) → ℕ → List State → LogSum
energy_of_phases n energy sum [] = constant (whole (pos 0))
energy_of_phases n energy sum (f ∷ fs) = added (scaled (ratio (moles n f) sum) (energy f)) (energy_of_phases n energy sum fs)

abbrev pub energy_of_division : Case → Instance → Division → LogSum
energy_of_division c x d = energy_of_phases c.n (energy_of c x) d.sum d.phases

-- ---- certified
-- an energy in 2^-40 bit
abbrev pub bits : ℤ → Fraction
bits u = record { num = u; den = 2 ^ 40 }

-- the division is one of the feed and has energy at most u, and no division has an energy below u - gap
pub record Certified (c : Case) (e : Enclosures) (d : Division) (u gap : ℤ) : Type 0 where
  pub right : AreRight c e
  pub divides : Divides c d
  pub at_most : (x : Instance) → IsInstance c e x → AtMost (energy_of_division c x d) (bits u)
  pub at_least : (x : Instance) → IsInstance c e x → (other : Division) → Divides c other →
      AtLeast (energy_of_division c x other) (bits (u -ℤ gap))
