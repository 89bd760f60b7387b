-- The exact parameters and the energy of sample cases.
use Rattle.std.specs.Prelude.{ℕ, zero, suc, ◌≡◌, ◌*◌, ◌^◌, List, [], ◌∷◌, pos, neg_ℤ, refl}
use Rattle.std.proofs.Common.{lit<, arith}
use Rattle.std.proofs.lemmas.Int.{ints}
use Rattle.log_laws.specs.Fraction.{Fraction, IsSame, whole, negated, product_of, quotient_of, difference}
use Rattle.log_laws.specs.LogSum.{Term, ratio}
use Rattle.case_types.specs.declared.cases.Edition.TheVariants.{Y1976, Y1978}
use Rattle.case_types.proofs.Samples.{binary_case}
use Rattle.case_types.specs.Energy.Instances.{Instance, HoldsRoot, pair_place}
use Rattle.case_types.specs.Energy.Parameters.{kappa_of, covolume, alpha_root, attraction}
use Rattle.case_types.specs.Energy.Divisions.{State, mean_covolume, mean_attraction, attraction_argument, energy_of}
use Rattle.log_laws.specs.Sums.{fraction_sum_below, log_sum_below}
use Rattle.log_laws.specs.Between.{Ends, IsBetween}

-- the order 12, 13, 14, 23, 24, 34
pub pair_order :
    pair_place 0 1 ∷ pair_place 0 2 ∷ pair_place 0 3 ∷ pair_place 1 2 ∷ pair_place 1 3 ∷ pair_place 2 3 ∷ []
    ≡ 0 ∷ 1 ∷ 2 ∷ 3 ∷ 4 ∷ 5 ∷ []
pair_order = refl

-- at w = 1.5 kappa is 2.08071, at w = -0.5 it is -0.46397
pub kappa_high : kappa_of Y1976 (pos 15000) ≡ pos (208071 * 10 ^ 13)
kappa_high = refl

pub kappa_low : kappa_of Y1976 (neg_ℤ (pos 5000)) ≡ neg_ℤ (pos (46397 * 10 ^ 13))
kappa_low = refl

-- up to w = 0.49 the editions agree, and above it they differ
pub kappa_at_the_switch : kappa_of Y1978 (pos 4900) ≡ pos 1065539608000000000
kappa_at_the_switch = refl

pub kappa_above : kappa_of Y1978 (pos 4923) ≡ pos 1072861305892461022
kappa_above = refl

-- the lower end of each printed pair of methane and decane
abbrev pub roots_of_binary : ℕ → Fraction
roots_of_binary zero = ratio 353166896635210 (2 ^ 48)
roots_of_binary (suc i) = ratio 196160526529093 (2 ^ 48)

abbrev pub pressures_of_binary : ℕ → ℕ → Fraction
pressures_of_binary zero zero = whole (pos 4599200)
pressures_of_binary zero (suc j) = ratio 13379572484777997 (2 ^ 32)
pressures_of_binary (suc i) zero = ratio 13379572484777997 (2 ^ 32)
pressures_of_binary (suc i) (suc j) = whole (pos 2110000)

abbrev pub lower_instance : Instance
lower_instance = record {
  root_two = ratio 1630477228166597776 (2 ^ 60);
  log_e = ratio 1586259924992 (2 ^ 40);
  temperature_root = roots_of_binary;
  pressure_root = pressures_of_binary;
}

abbrev pub ends : ℕ → ℕ → Ends
ends lo hi = record { lo = pos lo; hi = pos hi }

pub methane_covolume : covolume binary_case 0 ≡ record { num = pos 370646980000000; den = 6898800000000000 }
methane_covolume = refl

pub methane_covolume_reduced : IsSame (covolume binary_case 0) (ratio 18532349 344940000)
methane_covolume_reduced = refl

pub decane_alpha : IsBetween (ends 372631502658194 372631502658196) (2 ^ 48) (alpha_root binary_case lower_instance 1)
decane_alpha = record { is_fraction = lit< tt; above = omega (arith, ints); below = omega (arith, ints) }

pub pair_attraction : IsBetween (ends 41209067036049831 41209067036050328) (2 ^ 55) (attraction binary_case lower_instance 0 1)
pair_attraction = record { is_fraction = lit< tt; above = omega (arith, ints); below = omega (arith, ints) }

abbrev pub one_two : State
one_two = record { parts = parts_one_two; packing = ratio 1 2 }
  where
    parts_one_two : ℕ → ℕ
    parts_one_two zero = 1
    parts_one_two (suc i) = 2

abbrev pub none_two : State
none_two = record { parts = parts_none_two; packing = ratio 1 2 }
  where
    parts_none_two : ℕ → ℕ
    parts_none_two zero = 0
    parts_none_two (suc i) = 2

abbrev pub term : Fraction → Fraction → Term
term f a = record { factor = f; argument = a }

abbrev pub tail_of : State → List Term
tail_of f =
    let a = mean_attraction binary_case lower_instance f in
    let b = mean_covolume binary_case f in
    let s = lower_instance.root_two in
    term (whole (pos 1)) (ratio 1 2)
    ∷ term (whole (neg_ℤ (pos 1))) b
    ∷ term (whole (neg_ℤ (pos 1))) (difference (whole (pos 1)) (ratio 1 2))
    ∷ term (negated (quotient_of a (product_of (product_of (whole (pos 2)) s) b))) (attraction_argument s (ratio 1 2))
    ∷ []

-- the terms of the energy of a phase of one part and two
pub terms_of_mixture : (energy_of binary_case lower_instance one_two).terms ≡ term (ratio 1 3) (ratio 1 3) ∷ term (ratio 2 3) (ratio 2 3) ∷ tail_of one_two
unfolding energy_of fraction_sum_below log_sum_below
terms_of_mixture = refl

-- a component without parts has no term
pub terms_of_pure : (energy_of binary_case lower_instance none_two).terms ≡ term (ratio 2 2) (ratio 2 2) ∷ tail_of none_two
unfolding energy_of fraction_sum_below log_sum_below
terms_of_pure = refl

pub rest_of_mixture : IsSame (energy_of binary_case lower_instance one_two).rest (quotient_of (product_of (ratio 1586259924992 (2 ^ 40)) (mean_covolume binary_case one_two)) (ratio 1 2))
unfolding energy_of fraction_sum_below log_sum_below
rest_of_mixture = refl

-- an enclosure that is right, and one whose lower end is above the root
pub right_root : HoldsRoot (ends 281474976710656 281474976710656) 300000 300000 48
right_root = record { positive = omega (arith, ints); positive_above = omega (arith, ints); above = omega (arith, ints); below = omega (arith, ints) }

pub wrong_root : HoldsRoot (ends 281474976710657 281474976710657) 300000 300000 48 → ⊥
wrong_root h = absurd (omega (arith, ints, h.above))
