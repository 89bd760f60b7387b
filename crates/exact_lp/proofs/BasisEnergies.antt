-- The upper energy of the split of a basis lies above its plane at the feed by no more than ten units.
use Rattle.std.proofs.Common.{◌≡◌, ℕ, zero, suc, ◌*◌, ◌^◌, ◌<◌, ◌≤◌, Bool, true, false, List, ◌++◌, ℤ, pos, ◌+ℤ◌, ◌*ℤ◌, ◌≤ℤ◌, ◌<ℤ◌, unsigned_abs, slice_index, refl, ap, sym, ◌∙◌, arith}
use Rattle.std.specs.Prelude.{nat_eq}
use Rattle.std.specs.List.{All}
use Rattle.std.proofs.Math.IntN.{*ℤ_comm}
use Rattle.std.proofs.Math.Nat.{mul-pos}
use Rattle.std.proofs.lemmas.Int.{ints}
use Rattle.std.proofs.lemmas.List.{append-nil}
use Rattle.log_laws.specs.Sums.{sum_below, int_sum_below}
use Rattle.log_laws.specs.Whole.{floor_over}
use Rattle.log_laws.proofs.Exports.{≤ℤ_trans, mul-le_ℤ, le_of_mul-le_ℤ, mul_assoc_ℤ, add-mul_ℤ, scale_scale, lt-floor_over, natural, sum-same, sum-order, sum-added, sum-scaled, sum-whole}
use Rattle.case_types.specs.declared.cases.Case.{Case}
use Rattle.case_types.specs.declared.phases.Phase.{Phase}
use Rattle.case_types.specs.declared.rounds.Column.{Column}
use Rattle.case_types.specs.Arithmetic.Bounds.{plane_at}
use Rattle.case_types.specs.Arithmetic.Splits.{phase_up, phases_up, share_of_energy}
use Rattle.energy_surface.specs.Columns.{IsColumn}
use Rattle.energy_surface.specs.Program.Bases.{no_column, column_at, system, costs_of, feed_of, IsBasis}
use Rattle.energy_surface.specs.Program.Planes.{plane_entry, plane_of}
use Rattle.energy_surface.specs.Program.Solutions.{size, amount, slope}
use Rattle.energy_surface.specs.Program.Splits.{weighted_phase, weighted_phases, weight_of, phases_below}
use Rattle.energy_surface.specs.Rounds.{basis_up}
use Rattle.energy_surface.specs.Surfaces.{Surface}
use Rattle.exact_lp.proofs.AfterPivot.{spans_above}
use Rattle.exact_lp.proofs.ColumnPhases.{up_of_column}
use Rattle.exact_lp.proofs.DeterminantRules.{by_count}
use Rattle.exact_lp.proofs.FairPlanes.{plane_weighed, plane_at_is}
use Rattle.exact_lp.proofs.KeptColumns.{up_under_cost}
use Rattle.exact_lp.proofs.PhaseShares.{share_near, phases_up-append}
use Rattle.exact_lp.proofs.PlanesUnderCosts.{scale_out}
use Rattle.exact_lp.proofs.SplitOfBasis.{live_parts_sum, some_weight}
use Rattle.std.proofs.lemmas.Bool.{eqb-true}
use Rattle.case_types.proofs.Exports.{total_positive}
use Rattle.exact_lp.proofs.WeighedAmounts.{plane_at_row}

-- ---- the energy of the phases of a basis
abbrev place : List Column → List ℕ → ℕ → Column
place cols at j = column_at cols (slice_index at j)

-- the energy of a column by its weight, and two units
abbrev most_of : ℕ → ℕ → ℤ → ℤ
most_of q w u = pos (w * 2 ^ 20) *ℤ u +ℤ pos (2 * q)

nothing_weighs : (q : ℕ) (a u : ℤ) → a ≤ℤ (a +ℤ most_of q 0 u)
nothing_weighs q a u = omega (arith, ints)

add_share : (a e m : ℤ) (q : ℕ) → (e *ℤ pos q) ≤ℤ m → ((a +ℤ e) *ℤ pos q) ≤ℤ (a *ℤ pos q +ℤ m)
add_share a e m q h = rw (add-mul_ℤ a e (pos q)) (omega (arith, ints, h))

module _ (s : Surface) (n : ℕ) (count : s.count ≡ n) (low : 1 ≤ n) (high : n ≤ 4) (q : ℕ) (some : 0 < q) where
  share_of_column : (w : ℕ) (col : Column) → 1 ≤ w → IsColumn s col →
      (share_of_energy (sum_below s.count (slice_index (weighted_phase n w col).parts)) q (phase_up s.count s.up (weighted_phase n w col)) *ℤ pos q) ≤ℤ most_of q w col.up
  share_of_column w col weighs good =
      rw (up_of_column s n w col count low high weighs good)
      (rw (count, live_parts_sum n low high w col.comp, light) (share_near (w * 2 ^ 20) q col.up some (below good.small)))
    where
      light : sum_below n (slice_index col.comp) ≡ 2 ^ 20
      light = rw count at good.point.whole

      below : unsigned_abs col.up < 2 ^ 49 → unsigned_abs col.up < 2 ^ 60
      below h = omega (arith, h)

  one_phase_more : (fs : List Phase) (w : ℕ) (col : Column) (b : Bool) → nat_eq w 0 ≡ b → IsColumn s col →
      (phases_up s.count s.up q (fs ++ weighted_phases n w col) *ℤ pos q) ≤ℤ (phases_up s.count s.up q fs *ℤ pos q +ℤ most_of q w col.up)
  one_phase_more fs w col true e good = rw (e, append-nil fs, eqb-true w 0 e) (nothing_weighs q (phases_up s.count s.up q fs *ℤ pos q) col.up)
  one_phase_more fs w col false e good =
      rw (e, phases_up-append s.count s.up q fs (weighted_phase n w col))
      (add_share (phases_up s.count s.up q fs) _ (most_of q w col.up) q (share_of_column w col (some_weight w e) good))

one_place_more : (a b c m : ℤ) → a ≤ℤ (b +ℤ m) → b ≤ℤ c → a ≤ℤ (c +ℤ m)
one_place_more a b c m h k = omega (arith, ints, h, k)

nothing_up : (q : ℕ) → (pos 0 *ℤ pos q) ≤ℤ pos 0
nothing_up q = omega (arith, ints)

phases_near : (s : Surface) (c : Case) (cols : List Column) (at : List ℕ) (q : ℕ) → s.count ≡ c.n → 0 < q → IsBasis c cols at →
    All (λ (col : Column). IsColumn s col) cols → (k : ℕ) → k ≤ c.n →
    (phases_up s.count s.up q (phases_below c cols at k) *ℤ pos q) ≤ℤ int_sum_below k (λ j. most_of q (weight_of c cols at j) (place cols at j).up)
unfolding phases_below phases_up int_sum_below
phases_near s c cols at q count some basis good zero h = nothing_up q
phases_near s c cols at q count some basis good (suc k) h =
    let inside = basis.inside k (omega (arith, h)) in
    one_place_more _ (phases_up s.count s.up q (phases_below c cols at k) *ℤ pos q) (int_sum_below k (λ j. most_of q (weight_of c cols at j) (place cols at j).up))
    (most_of q (weight_of c cols at k) (place cols at k).up)
    (one_phase_more s c.n count c.some c.few q some (phases_below c cols at k) (weight_of c cols at k) (place cols at k) (nat_eq (weight_of c cols at k) 0) refl (good (slice_index at k) no_column inside))
    (phases_near s c cols at q count some basis good k (omega (arith, h)))

-- ---- by costs
by_cost : (w : ℕ) (a u cost : ℤ) (q : ℕ) → a ≡ pos w → u ≤ℤ (cost *ℤ pos (2 ^ 10)) → most_of q w u ≤ℤ (pos (2 ^ 30) *ℤ (a *ℤ cost) +ℤ pos (2 * q))
by_cost w a u cost q e h = rw (e, scaled (2 ^ 20) u) (omega (arith, ints, moved, rw (*ℤ_comm u (pos w)) at (mul-le_ℤ u (cost *ℤ pos (2 ^ 10)) w h)))
  where
    scaled : (t : ℕ) (u : ℤ) → pos (w * t) *ℤ u ≡ pos t *ℤ (pos w *ℤ u)
    scaled t u = *ℤ_comm (pos (w * t)) u ∙ sym (scale_scale u w t) ∙ *ℤ_comm (u *ℤ pos w) (pos t) ∙ ap (λ (x : ℤ). pos t *ℤ x) (*ℤ_comm u (pos w))

    moved : (cost *ℤ pos (2 ^ 10)) *ℤ pos w ≡ pos (2 ^ 10) *ℤ (pos w *ℤ cost)
    moved =
        ap (λ (x : ℤ). x *ℤ pos w) (*ℤ_comm cost (pos (2 ^ 10))) ∙ mul_assoc_ℤ (pos (2 ^ 10)) cost (pos w) ∙ ap (λ (x : ℤ). pos (2 ^ 10) *ℤ x) (*ℤ_comm cost (pos w))

same_number_many : (n t : ℕ) → 1 ≤ n → n ≤ 4 → int_sum_below n (λ j. pos t) ≤ℤ pos (4 * t)
unfolding int_sum_below
same_number_many n t low high =
    by_count (λ n. int_sum_below n (λ j. pos t) ≤ℤ pos (4 * t)) (omega (arith, ints)) (omega (arith, ints)) (omega (arith, ints)) (omega (arith, ints)) n low high

costs_near : (n : ℕ) (f : ℕ → ℤ) (q : ℕ) → 1 ≤ n → n ≤ 4 → int_sum_below n (λ j. pos (2 ^ 30) *ℤ f j +ℤ pos (2 * q)) ≤ℤ (pos (2 ^ 30) *ℤ int_sum_below n f +ℤ pos (8 * q))
costs_near n f q low high =
    rw (sum-added n (λ j. pos (2 ^ 30) *ℤ f j) (λ j. pos (2 * q)), sum-scaled n (pos (2 ^ 30)) f)
    (added (pos (2 ^ 30) *ℤ int_sum_below n f) (int_sum_below n (λ j. pos (2 * q))) (same_number_many n (2 * q) low high))
  where
    added : (a b : ℤ) → b ≤ℤ pos (4 * (2 * q)) → (a +ℤ b) ≤ℤ (a +ℤ pos (8 * q))
    added a b h = omega (arith, ints, h)

-- ---- the plane at the feed
floor_weighed : (l f : ℤ) (s z : ℕ) → l <ℤ (f *ℤ pos s +ℤ pos s) → (l *ℤ pos z) ≤ℤ (pos s *ℤ (f *ℤ pos z) +ℤ pos s *ℤ pos z)
floor_weighed l f s z h =
    let le = mul-le_ℤ l (f *ℤ pos s +ℤ pos s) z (less l (f *ℤ pos s +ℤ pos s) h) in
    let e : (f *ℤ pos s +ℤ pos s) *ℤ pos z ≡ pos s *ℤ (f *ℤ pos z) +ℤ pos s *ℤ pos z =
    add-mul_ℤ (f *ℤ pos s) (pos s) (pos z) ∙ ap (λ (x : ℤ). x +ℤ pos s *ℤ pos z) (ap (λ (x : ℤ). x *ℤ pos z) (*ℤ_comm f (pos s)) ∙ mul_assoc_ℤ (pos s) f (pos z)) in
    rw e at le
  where
    less : (a b : ℤ) → a <ℤ b → a ≤ℤ b
    less a b h = omega (arith, ints, h)

plane_floored : (n : ℕ) (cols : List Column) (at : List ℕ) (z : ℕ → ℕ) → 0 < size n (system cols at) →
    (pos (2 ^ 30) *ℤ int_sum_below n (λ i. slope n (system cols at) (costs_of cols at) i *ℤ pos (z i)))
    ≤ℤ (pos (size n (system cols at)) *ℤ plane_weighed n cols at z +ℤ pos (size n (system cols at)) *ℤ int_sum_below n (λ i. pos (z i)))
plane_floored n cols at z spans =
    let s = size n (system cols at) in
    let l = slope n (system cols at) (costs_of cols at) in
    let lam = plane_entry n cols at in
    let each = sum-order n (λ i. (l i *ℤ pos (2 ^ 30)) *ℤ pos (z i)) (λ i. pos s *ℤ (lam i *ℤ pos (z i)) +ℤ pos s *ℤ pos (z i))
    (λ i _. floor_weighed (l i *ℤ pos (2 ^ 30)) (lam i) s (z i) (lt-floor_over (l i *ℤ pos (2 ^ 30)) s spans)) in
    let out : int_sum_below n (λ i. (l i *ℤ pos (2 ^ 30)) *ℤ pos (z i)) ≡ pos (2 ^ 30) *ℤ int_sum_below n (λ i. l i *ℤ pos (z i)) =
    sum-same n (λ i. (l i *ℤ pos (2 ^ 30)) *ℤ pos (z i)) (λ i. pos (2 ^ 30) *ℤ (l i *ℤ pos (z i))) (λ i _. scale_out (l i) (2 ^ 30) (z i)) ∙ sum-scaled n (pos (2 ^ 30)) (λ i. l i *ℤ pos (z i)) in
    rw (out, sum-added n (λ i. pos s *ℤ (lam i *ℤ pos (z i))) (λ i. pos s *ℤ pos (z i)), sum-scaled n (pos s) (λ i. lam i *ℤ pos (z i)), sum-scaled n (pos s) (λ i. pos (z i))) at each

-- ---- put together
within_ten : (up f t paid : ℤ) (q : ℕ) → 0 < q → (up *ℤ pos q) ≤ℤ (paid +ℤ pos (8 * q)) → paid ≤ℤ (t +ℤ pos q) → t ≤ℤ (f *ℤ pos q +ℤ pos q) → up ≤ℤ (f +ℤ pos 10)
within_ten up f t paid q some h k l =
    le_of_mul-le_ℤ up (f +ℤ pos 10) q some (rw (add-mul_ℤ f (pos 10) (pos q)) (omega (arith, ints, h, k, l)))

floor_of_feed : (t : ℤ) (total s : ℕ) → 0 < total → (pos s *ℤ t) ≤ℤ (floor_over t total *ℤ pos (total * s) +ℤ pos (total * s))
floor_of_feed t total s some =
    let le = mul-le_ℤ t (floor_over t total *ℤ pos total +ℤ pos total) s (omega (arith, ints, lt-floor_over t total some)) in
    rw (*ℤ_comm (pos s) t) (rw (add-mul_ℤ (floor_over t total *ℤ pos total) (pos total) (pos s), scale_scale (floor_over t total) total s) at le)

pub basis_up_near : (s : Surface) (c : Case) (cols : List Column) (at : List ℕ) → s.count ≡ c.n → IsBasis c cols at →
    All (λ (col : Column). IsColumn s col) cols →
    basis_up s c cols at ≤ℤ (plane_at c.n (plane_of c.n cols at) c.z c.total +ℤ pos 10)
basis_up_near s c cols at count basis good =
    let m = system cols at in
    let spans = spans_above c cols at basis in
    let q = c.total * size c.n m in
    let some : 0 < q = mul-pos (total_positive c) spans in
    let paid = int_sum_below c.n (λ j. amount c.n m (feed_of c) j *ℤ costs_of cols at j) in
    let sloped = int_sum_below c.n (λ i. slope c.n m (costs_of cols at) i *ℤ feed_of c i) in
    let row : paid ≡ sloped = plane_at_row c.n c.some c.few m (costs_of cols at) (feed_of c) spans in
    let t = plane_weighed c.n cols at (slice_index c.z) in
    let total : int_sum_below c.n (λ i. pos (slice_index c.z i)) ≡ pos c.total = sum-whole c.n (slice_index c.z) ∙ ap pos c.added in
    let floored = plane_floored c.n cols at (slice_index c.z) spans in
    rw (plane_at_is c.n cols at c.z c.total c.few)
    (within_ten (basis_up s c cols at) (floor_over t c.total) (pos (size c.n m) *ℤ t) (pos (2 ^ 30) *ℤ paid) q some
    (energy q some) (rw row (moles (pos (2 ^ 30) *ℤ sloped) (pos (size c.n m) *ℤ t) (size c.n m) (rw total at floored))) (floor_of_feed t c.total (size c.n m) (total_positive c)))
  where
    moles : (a b : ℤ) (z : ℕ) → a ≤ℤ (b +ℤ pos z *ℤ pos c.total) → a ≤ℤ (b +ℤ pos (c.total * z))
    moles a b z h = omega (arith, ints, h)

    energy : (q : ℕ) → 0 < q →
        (phases_up s.count s.up q (phases_below c cols at c.n) *ℤ pos q)
        ≤ℤ (pos (2 ^ 30) *ℤ int_sum_below c.n (λ j. amount c.n (system cols at) (feed_of c) j *ℤ costs_of cols at j) +ℤ pos (8 * q))
    energy q some =
        let a = amount c.n (system cols at) (feed_of c) in
        let each = sum-order c.n (λ j. most_of q (weight_of c cols at j) (place cols at j).up) (λ j. pos (2 ^ 30) *ℤ (a j *ℤ costs_of cols at j) +ℤ pos (2 * q))
        (λ j h. by_cost (weight_of c cols at j) (a j) (place cols at j).up (costs_of cols at j) q (natural (a j) (basis.feeds j h))
        (up_under_cost s (place cols at j) (good (slice_index at j) no_column (basis.inside j h)))) in
        ≤ℤ_trans _ _ _ (phases_near s c cols at q count some basis good c.n (omega arith))
        (≤ℤ_trans _ _ _ each (costs_near c.n (λ j. a j *ℤ costs_of cols at j) q c.some c.few))
