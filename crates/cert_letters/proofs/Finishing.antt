-- Letters that write a good tree for each cell of a stack.
use Rattle.std.proofs.Common.{◌≡◌, ℕ, List, [], ◌∷◌, ◌++◌, refl, sym, ap, ◌∙◌, Bool, append_assoc}
use Rattle.std.specs.Prelude.{IsTrue}
use Rattle.std.proofs.lemmas.List.{map-append}
use Rattle.case_types.specs.Grid.Cells.{Region, Tree, Leaf, Node, Mark, Step, Ends, Halves, Visit, visits, letter_of, letters_of, lower_half, upper_half}
use Rattle.cert_letters.specs.Steps.{IsEdgeOf, can_halve}
use Rattle.cert_letters.specs.Lines.{IsGoodTree}

-- the letters write a good tree for each cell, the next one first
unfoldable pub Finishes : ℕ → (Region → Mark → Bool) → List Region → List ℕ → Type 0
Finishes n good [] letters = letters ≡ []
Finishes n good (c ∷ below) letters =
    (t : Tree) × (rest : List ℕ) × (letters ≡ letters_of (visits t c) ++ rest) × IsGoodTree n good t c × Finishes n good below rest

-- the cells behind a step
abbrev pub behind : Region → List Region → Step → List Region
behind c below (Ends mark) = below
behind c below (Halves edge) = lower_half edge c ∷ upper_half edge c ∷ below

-- a step can stand on the cell
abbrev pub CanStand : ℕ → (Region → Mark → Bool) → Region → Step → Type 0
CanStand n good c (Ends mark) = IsTrue (good c mark)
CanStand n good c (Halves edge) = IsEdgeOf n edge × IsTrue (can_halve c edge)

-- a letter in front
pub finishes_more : (n : ℕ) (good : Region → Mark → Bool) (c : Region) (below : List Region) (s : Step) (ls : List ℕ) → CanStand n good c s
    → Finishes n good (behind c below s) ls → Finishes n good (c ∷ below) (letter_of s ∷ ls)
unfolding Finishes IsGoodTree visits
finishes_more n good c below (Ends mark) ls can f = (Leaf mark, ls, refl, can, f)
finishes_more n good c below (Halves edge) ls can f =
    let g = f.4 in (
      Node edge f.0 g.0,
      g.1,
      ap (λ (t : List ℕ). letter_of (Halves edge) ∷ t)
          (f.2 ∙ ap (λ (t : List ℕ). letters_of (visits f.0 (lower_half edge c)) ++ t) g.2
          ∙ sym (append_assoc (letters_of (visits f.0 (lower_half edge c))) (letters_of (visits g.0 (upper_half edge c))) g.1)
          ∙ ap (λ (t : List ℕ). t ++ g.1) (sym (map-append (λ (v : Visit). letter_of v.step) (visits f.0 (lower_half edge c)) (visits g.0 (upper_half edge c))))),
      (can.0, can.1, f.3, g.3),
      g.4,
    )

-- the letter in front of what finishes the cells
pub record Front (n : ℕ) (good : Region → Mark → Bool) (c : Region) (below : List Region) (letters : List ℕ) : Type 0 where
  pub step : Step
  pub rest : List ℕ
  pub is : letters ≡ letter_of step ∷ rest
  pub can : CanStand n good c step
  pub finishes : Finishes n good (behind c below step) rest

pub front_of : (n : ℕ) (good : Region → Mark → Bool) (c : Region) (below : List Region) (letters : List ℕ) → Finishes n good (c ∷ below) letters → Front n good c below letters
unfolding Finishes IsGoodTree visits
front_of n good c below letters f = by_tree f.0 f.1 f.2 f.3 f.4
  where
    by_tree : (t : Tree) (rest : List ℕ) → letters ≡ letters_of (visits t c) ++ rest → IsGoodTree n good t c → Finishes n good below rest → Front n good c below letters
    by_tree (Leaf mark) rest e g f = record { step = Ends mark; rest = rest; is = e; can = g; finishes = f }
    by_tree (Node edge lower upper) rest e g f = record {
      step = Halves edge;
      rest = letters_of (visits lower (lower_half edge c)) ++ (letters_of (visits upper (upper_half edge c)) ++ rest);
      is = e ∙ ap (λ (t : List ℕ). letter_of (Halves edge) ∷ t)
          (ap (λ (t : List ℕ). t ++ rest) (map-append (λ (v : Visit). letter_of v.step) (visits lower (lower_half edge c)) (visits upper (upper_half edge c)))
          ∙ append_assoc (letters_of (visits lower (lower_half edge c))) (letters_of (visits upper (upper_half edge c))) rest);
      can = (g.0, g.1);
      finishes = (lower, letters_of (visits upper (upper_half edge c)) ++ rest, refl, g.2, (upper, rest, refl, g.3, f));
    }
