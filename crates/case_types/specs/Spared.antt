-- A list with room reserved for more items.
use Rattle.std.specs.Prelude.{ℕ, List}

pub record Spared (T : Type 0) : Type 0 where
  pub items : List T
  pub spare : ℕ
