-- The energy of a state from bounds of its terms.
use Rattle.std.proofs.Common.{◌≡◌, subst, arith, ℤ, pos, neg_ℤ, ◌+ℤ◌, ◌-ℤ◌}
use Rattle.std.proofs.lemmas.Int.{ints}
use Rattle.log_laws.specs.Fraction.{Fraction, whole, difference}
use Rattle.log_laws.specs.LogSum.{LogSum, added}
use Rattle.case_types.specs.declared.cases.Case.{Case}
use Rattle.case_types.specs.Energy.Divisions.{State, bits, mean_covolume, mean_attraction, mixing, volume_part, minus_log_of, attraction_part, energy_of}
use Rattle.case_types.specs.Energy.Instances.{Instance}

-- for bounds that add up, as at least and at most do
module _ (R : LogSum → Fraction → Type 0) (adds : (s t : LogSum) (q r : ℤ) → R s (bits q) → R t (bits r) → R (added s t) (bits (q +ℤ r))) where
  pub energy_by_terms : (c : Case) (x : Instance) (f : State) (m v l k q : ℤ) → R (mixing c.n f) (bits m) →
      R (volume_part x.log_e (mean_covolume c f) f.packing) (bits v) → R (minus_log_of (mean_covolume c f)) (bits (neg_ℤ l)) →
      R (minus_log_of (difference (whole (pos 1)) f.packing)) (bits (neg_ℤ k)) →
      R (attraction_part x.root_two (mean_attraction c x f) (mean_covolume c f) f.packing) (bits (neg_ℤ q)) →
      R (energy_of c x f) (bits (m +ℤ v -ℤ l -ℤ k -ℤ q))
  unfolding energy_of
  energy_by_terms c x f m v l k q hm hv hl hk hq =
      let b = mean_covolume c f in
      let volume = volume_part x.log_e b f.packing in
      let covolume = minus_log_of b in
      let rest = minus_log_of (difference (whole (pos 1)) f.packing) in
      let attraction = attraction_part x.root_two (mean_attraction c x f) b f.packing in
      subst (λ (z : ℤ). R (energy_of c x f) (bits z)) (regrouped m v l k q)
      (adds (mixing c.n f) (added volume (added covolume (added rest attraction))) m (v +ℤ (neg_ℤ l +ℤ (neg_ℤ k +ℤ neg_ℤ q))) hm
      (adds volume (added covolume (added rest attraction)) v (neg_ℤ l +ℤ (neg_ℤ k +ℤ neg_ℤ q)) hv
      (adds covolume (added rest attraction) (neg_ℤ l) (neg_ℤ k +ℤ neg_ℤ q) hl (adds rest attraction (neg_ℤ k) (neg_ℤ q) hk hq))))
    where
      regrouped : (m v l k q : ℤ) → m +ℤ (v +ℤ (neg_ℤ l +ℤ (neg_ℤ k +ℤ neg_ℤ q))) ≡ m +ℤ v -ℤ l -ℤ k -ℤ q
      regrouped m v l k q = omega (arith, ints)
