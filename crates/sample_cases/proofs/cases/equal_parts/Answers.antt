use Rattle.std.proofs.Common.{◌≡◌, ℕ, zero, suc, ◌≤◌, [], ◌∷◌, nat_le, slice_index, refl, arith}
use Rattle.log_laws.specs.Sums.{sum_below}
use Rattle.log_laws.proofs.Exports.{all_below-less}
use Rattle.sample_cases.proofs.cases.equal_parts.Goals as goal

-- up to four parts of 1 add up to their number
ones_added : (n : ℕ) → n ≤ 4 → sum_below n (slice_index (1 ∷ 1 ∷ 1 ∷ 1 ∷ [])) ≡ n
ones_added zero h = refl
ones_added (suc zero) h = refl
ones_added (suc (suc zero)) h = refl
ones_added (suc (suc (suc zero))) h = refl
ones_added (suc (suc (suc (suc zero)))) h = refl
ones_added (suc (suc (suc (suc (suc n))))) h = absurd (omega (arith, h))

pub invariant_of-result : goal.invariant_of-result
invariant_of-result c =
    let n : ℕ = c.args.n in
    let few : n ≤ 4 = c.requires.few in
    record {
      some = c.requires.some;
      few = few;
      tc_range = all_below-less n 4 _ few c.requires.tc;
      pc_range = all_below-less n 4 _ few c.requires.pc;
      w_range = all_below-less n 4 _ few c.requires.w;
      interactions = c.requires.interactions;
      live = all_below-less n 4 (λ i. nat_le 1 (slice_index (1 ∷ 1 ∷ 1 ∷ 1 ∷ []) i)) few refl;
      added = ones_added n few;
      total_high = omega (arith, few);
      t_low = c.requires.t_low;
      t_high = c.requires.t_high;
      p_low = c.requires.p_low;
      p_high = c.requires.p_high;
    }
