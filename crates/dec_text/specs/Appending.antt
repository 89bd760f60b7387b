-- Texts that grow.
use Rattle.std.specs.Prelude.{◌≡◌, ℕ, List, ◌++◌}

-- some bytes were appended
pub record Adds (old new bytes : List ℕ) : Type 0 where
  pub is : new ≡ old ++ bytes
