-- The parts of the cells on a stack.
use Rattle.std.proofs.Common.{◌≡◌, List, ◌∷◌, ℤ}
use Rattle.box_search.specs.declared.parts.Half.{Half}
use Rattle.box_search.specs.Parts.{Meanings, HasParts, HaveParts}

pub parts_top : (m : Meanings) (lam : List ℤ) (all rest : List Half) (h : Half) → all ≡ h ∷ rest → HaveParts m lam all → HasParts m lam h × HaveParts m lam rest
parts_top m lam all rest h e own = rw e at own

pub parts_two : (m : Meanings) (lam : List ℤ) (all rest : List Half) (a b : Half) → all ≡ a ∷ b ∷ rest → HasParts m lam a → HasParts m lam b → HaveParts m lam rest → HaveParts m lam all
parts_two m lam all rest a b e h k own = rw e (h, (k, own))
