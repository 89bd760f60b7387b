-- The value of a cell's form at a state, in the energy's own words: what the identity of the two asks for is there at every state.
use Rattle.std.proofs.Common.{ℕ, zero, suc, ◌+◌, ◌*◌, ◌^◌, ◌≤◌, ◌<◌, ◌≡◌, None, List, refl, arith, lit<, ℤ, pos, ◌*ℤ◌}
use Rattle.std.proofs.Math.Nat.{mul-le-mul_right}
use borrow.Author.Differences.{up, down, lt_out}
use Rattle.log_laws.specs.Between.{IsBetween}
use Rattle.log_laws.specs.Fraction.{Fraction, IsFraction, whole, product_of, quotient_of, negated, sum_of}
use Rattle.log_laws.specs.LogSum.{AtLeast, IsPositive, ratio}
use Rattle.log_laws.proofs.Exports.{IsParts, by_ratio, order_of_ratios, parts_negated, parts_one, parts_product, parts_ratio, parts_sum, product_pos, up-positive}
use Rattle.case_types.specs.declared.cases.Case.{Case}
use Rattle.case_types.specs.Arithmetic.Faults.{fault_of}
use Rattle.case_types.specs.Arithmetic.Numbers.{numbers_of, enclosures_of}
use Rattle.case_types.specs.Energy.Divisions.{State, IsState, mean_covolume, mean_attraction, attraction_argument, energy_of}
use Rattle.case_types.specs.Energy.Instances.{Instance, IsInstance}
use Rattle.pr_params.specs.Packings.{IsPacking}
use Rattle.pr_params.proofs.Exports.{holds_parameters, packing_positive, state_packing}
use Rattle.tangent_bound.proofs.CellEnergy.{IsEnergy, above_root, below_root, cell_is_energy, raised_positive, up_times}
use Rattle.tangent_bound.proofs.CellTerms.{argument_of, push_of, share_of}
use Rattle.tangent_bound.proofs.CellValues.{cell_value}
use Rattle.tangent_bound.proofs.SlopeConstants.{constants_of, root_between, root_ends, root_positive}
use Rattle.tangent_bound.proofs.SlopeParts.{values_at}

-- ---- the arguments of the attraction's logarithms
positive_of_parts : {f : Fraction} {u v d : ℕ} → IsParts f u v d → v < u → IsPositive f
positive_of_parts {f} {u} {v} {d} p h = (p.den_pos, some (up f.num) (down f.num) f.den p.den_pos p.is)
  where
    some : (n m F : ℕ) → 0 < F → n * d + v * F ≡ m * d + u * F → 0 < n
    some zero m F pF e = let k : (v + 1) * F ≤ u * F = mul-le-mul_right F (omega (arith, h)) in absurd (omega (arith, e, k, pF))
    some (suc n) m F pF e = omega arith

above_positive : (s y : Fraction) → IsPositive s → IsPositive y → IsPositive (above_root s y)
above_positive s y ps py =
    by_ratio (λ s. IsPositive (above_root s y)) s ps
    (λ a b pa pb. by_ratio (λ y. IsPositive (above_root (ratio a b) y)) y py
    (λ u v pu pv. positive_of_parts (parts_sum parts_one (parts_product (parts_ratio u v pv) (parts_sum parts_one (parts_ratio a b pb))))
    (more a b u v (product_pos v b pv pb))))
  where
    more : (a b u v : ℕ) → 0 < v * b → 0 * (v * (1 * b)) + (u * (0 * b + 0 * 1) + 0 * (1 * b + a * 1)) * 1 < 1 * (v * (1 * b)) + (u * (1 * b + a * 1) + 0 * (0 * b + 0 * 1)) * 1
    more a b u v h = omega (arith, h)

below_positive : (s y : Fraction) → IsBetween root_ends (2 ^ 60) s → IsPacking y → IsPositive (below_root s y)
below_positive s y hs hy =
    by_ratio (λ s. IsBetween root_ends (2 ^ 60) s → IsPositive (below_root s y)) s (root_positive s hs)
    (λ a b pa pb k. by_ratio (λ y. IsPacking y → IsPositive (below_root (ratio a b) y)) y (packing_positive y hy)
    (λ u v pu pv p. positive_of_parts (parts_sum parts_one (parts_negated (parts_product (parts_ratio u v pv) (parts_sum (parts_ratio a b pb) (parts_negated parts_one)))))
    (more a b u v pb (order_of_ratios a b 1630477228166597777 (2 ^ 60) pb (lit< tt) k.below) (let l = lt_out (pos u) (pos v) p.not_full in omega (arith, l)))) hy) hs
  where
    more : (a b u v : ℕ) → 0 < b → a * 2 ^ 60 ≤ 1630477228166597777 * b → u < v →
        0 * (v * (b * 1)) + (u * (a * 1 + 0 * b) + 0 * (0 * 1 + 1 * b)) * 1 < 1 * (v * (b * 1)) + (u * (0 * 1 + 1 * b) + 0 * (a * 1 + 0 * b)) * 1
    more a b u v pb h l =
        let twice : a ≤ 2 * b = omega (arith, h) in
        let x : a * u ≤ 2 * b * u = mul-le-mul_right u twice in
        let y : (u + 1) * b ≤ v * b = mul-le-mul_right b (omega (arith, l)) in
        omega (arith, x, y, pb)

-- ---- the energy of a state
abbrev push_at : Case → Instance → State → Fraction
push_at c x f = quotient_of (product_of x.log_e (mean_covolume c f)) f.packing

abbrev share_at : Case → Instance → State → Fraction
share_at c x f = negated (quotient_of (mean_attraction c x f) (product_of (product_of (whole (pos 2)) x.root_two) (mean_covolume c f)))

share_positive : (s b : Fraction) → IsPositive s → IsPositive b → 0 < up ((pos 2 *ℤ s.num) *ℤ b.num)
share_positive s b ps pb =
    let two : up (pos 2 *ℤ s.num) ≡ 2 * up s.num = up-positive (pos 2) s.num (omega arith) ps.1 in
    let some : 0 < up (pos 2 *ℤ s.num) = rw two (product_pos 2 (up s.num) (omega arith) ps.1) in
    rw (up-positive (pos 2 *ℤ s.num) b.num some pb.1) (product_pos (up (pos 2 *ℤ s.num)) (up b.num) some pb.1)

energy_terms : (c : Case) (x : Instance) (lam : List ℤ) (f : State) → fault_of c ≡ None → IsInstance c (enclosures_of c) x → IsState c.n f →
    IsPositive (mean_covolume c f) → IsFraction (mean_attraction c x f) →
    IsEnergy (constants_of c x) (values_at c x lam f) (mean_covolume c f) (push_at c x f) (share_at c x f) (attraction_argument x.root_two f.packing)
energy_terms c x lam f e i state pb pa =
    let k = (numbers_of c).lift in
    let b = mean_covolume c f in
    let a = mean_attraction c x f in
    let s = x.root_two in
    let y = f.packing in
    let between = root_between c x e i in
    let ps = root_positive s between in
    let packing = state_packing c.n f state in
    let py = packing_positive y packing in
    let pe = (holds_parameters c x e i).log_e.is_fraction in
    let above = above_positive s y ps py in
    let below = below_positive s y between packing in
    let argument = argument_of s y ps.0 py.0 above below in
    let is_lifted : up (b.num *ℤ pos (2 ^ k)) * (b.den * 1) ≡ up b.num * 2 ^ k * (b.den * 1) = rw (up_times b.num (2 ^ k) pb.1) refl in
    record {
      positive = pb;
      lifted = is_lifted;
      push_is = push_of y x.log_e b b py pe pb.0 pb.0 refl;
      push_fraction = product_pos (x.log_e.den * b.den) (up y.num) (product_pos x.log_e.den b.den pe pb.0) py.1;
      share_is = share_of s b a (product_of b (whole (pos (2 ^ k)))) (product_of a (whole (pos (2 ^ k)))) k ps pb pa (product_pos b.den 1 pb.0 (omega arith), raised_positive b k pb.1) (product_pos a.den 1 pa (omega arith)) is_lifted refl;
      share_fraction = product_pos a.den (up ((pos 2 *ℤ s.num) *ℤ b.num)) pa (share_positive s b ps pb);
      above = above;
      below = below;
      argument_is = argument.1;
      argument_positive = argument.0;
    }

-- a bound of the value is one of the energy, less the plane
pub energy_above : (c : Case) (x : Instance) (lam : List ℤ) (f : State) (r : Fraction) → fault_of c ≡ None → IsInstance c (enclosures_of c) x → IsState c.n f →
    IsPositive (mean_covolume c f) → IsFraction (mean_attraction c x f) → AtLeast (cell_value (constants_of c x) (values_at c x lam f)) r →
    AtLeast (energy_of c x f) (sum_of r (values_at c x lam f).plane)
unfolding energy_of
energy_above c x lam f r e i state pb pa h =
    cell_is_energy (constants_of c x) (values_at c x lam f) (mean_covolume c f) (push_at c x f) (share_at c x f) (attraction_argument x.root_two f.packing) r
    (energy_terms c x lam f e i state pb pa) h
