-- Numbers that rise.
use Rattle.std.specs.Prelude.{ℕ, List, [], ◌∷◌, Bool, true, ◌&&◌, IsTrue, nat_lt}
use Rattle.std.specs.List.{list_all}

-- each number is below all later ones
unfoldable pub is_rising : List ℕ → Bool
is_rising [] = true
is_rising (k ∷ ks) = list_all (nat_lt k) ks && is_rising ks

-- rising numbers below n
pub record AreRisingBelow (n : ℕ) (ks : List ℕ) : Type 0 where
  pub rising : IsTrue (is_rising ks)
  pub below : IsTrue (list_all (λ k. nat_lt k n) ks)
