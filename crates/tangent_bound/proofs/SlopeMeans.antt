-- How means over the components, and over all pairs of them, move from the middle of a cell to a state of it.
use Rattle.std.proofs.Common.{ℕ, ◌-◌, ◌^◌, ◌≤◌, ◌<◌, ◌≡◌, zero, suc, arith, ℤ}
use Rattle.log_laws.specs.Between.{Ends, IsBetween}
use Rattle.log_laws.specs.Fraction.{Fraction, IsFraction, difference}
use Rattle.log_laws.specs.LogSum.{constant}
use Rattle.log_laws.proofs.Exports.{mean, pair_mean, row_sum}
use Rattle.case_types.specs.Energy.Divisions.{State, moles, mole_fraction}
use Rattle.slope_form.specs.Meaning.{Steps}
use Rattle.slope_form.proofs.Exports.{Moves, free_ends, mean_moves_by, pair_moves_by}
use Rattle.tangent_bound.proofs.SlopeSteps.{AreSteps}

pub number_moves : (n : ℕ) (c g : State) (d : Steps) (z : ℕ → ℤ) (f : ℕ → Fraction) (w : ℕ → Ends) → 0 < n → n ≤ 4 → 0 < moles n c → 0 < moles n g → AreSteps n c g d z →
    ((i : ℕ) → i < n → IsBetween (w i) (2 ^ 40) (f i)) →
    Moves (constant (difference (mean n (mole_fraction n g) f) (mean n (mole_fraction n c) f))) (free_ends (n - 1) w) d
number_moves zero c g d z f w some few pc pg s h = absurd (omega (arith, some))
number_moves (suc m) c g d z f w some few pc pg s h =
    let e : suc m - 1 ≡ m = omega arith in
    rw e
    (mean_moves_by m w f (mole_fraction (suc m) g) (mole_fraction (suc m) c) z d (omega (arith, few)) h (λ i l. pg) (λ i l. pc) s.same (λ j l. s.free j (omega (arith, l, e))) s.none)

pub pairs_move : (n : ℕ) (c g : State) (d : Steps) (z : ℕ → ℤ) (a : ℕ → ℕ → Fraction) (w : ℕ → Ends) → 0 < n → n ≤ 4 → 0 < moles n c → 0 < moles n g → AreSteps n c g d z →
    ((i j : ℕ) → i < n → j < n → IsFraction (a i j)) → ((i j : ℕ) → a i j ≡ a j i) →
    ((i : ℕ) → i < n → IsBetween (w i) (2 ^ 40) (row_sum n (mole_fraction n g) (mole_fraction n c) a i)) →
    Moves (constant (difference (pair_mean n (mole_fraction n g) a) (pair_mean n (mole_fraction n c) a))) (free_ends (n - 1) w) d
pairs_move zero c g d z a w some few pc pg s pa either h = absurd (omega (arith, some))
pairs_move (suc m) c g d z a w some few pc pg s pa either h =
    let e : suc m - 1 ≡ m = omega arith in
    rw e
    (pair_moves_by m w (mole_fraction (suc m) g) (mole_fraction (suc m) c) a z d (omega (arith, few)) h (λ i l. pg) (λ i l. pc) pa either s.same (λ j l. s.free j (omega (arith, l, e))) s.none)
