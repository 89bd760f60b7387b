-- Four ratios.
use Rattle.std.proofs.Common.{ℕ, ◌≡◌, ◌≤◌, ◌^◌, true, [], ◌∷◌, refl}
use Rattle.std.specs.Prelude.{IsTrue, ◌&&◌, nat_le}
use Rattle.std.proofs.lemmas.Bool.{le-leb}
use Rattle.rachford_rice.specs.Sum.{are_ratios}

pub four_ratios : (a b c d : ℕ) → 1 ≤ a → a ≤ 2 ^ 52 → 1 ≤ b → b ≤ 2 ^ 52 → 1 ≤ c → c ≤ 2 ^ 52 → 1 ≤ d → d ≤ 2 ^ 52 → IsTrue (are_ratios 4 (a ∷ b ∷ c ∷ d ∷ []))
four_ratios a b c d la ha lb hb lc hc ld hd = rw (within a la ha, within b lb hb, within c lc hc, within d ld hd) refl
  where
    within : (x : ℕ) → 1 ≤ x → x ≤ 2 ^ 52 → (nat_le 1 x && nat_le x (2 ^ 52)) ≡ true
    within x l h = rw (le-leb 1 x l, le-leb x (2 ^ 52) h) refl
