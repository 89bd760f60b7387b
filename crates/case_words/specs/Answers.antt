-- Results, and what a call answers of them.
use Rattle.std.specs.Prelude.{◌≡◌, Result, Ok, Err, Bool, if◌then◌else◌, List, [], ◌∷◌}

infixl 10 ◌>>=◌
-- the next step, unless there was a fault
abbrev pub ◌>>=◌ : {A B F : Type 0} → Result A F → (A → Result B F) → Result B F
Ok a >>= f = f a
Err fault >>= f = Err fault

-- what there is, or a fault
abbrev pub when : {A F : Type 0} → Bool → A → F → Result A F
when b a fault = if b then Ok a else Err fault

-- a result is the wanted one, its value being seen by `view`
abbrev pub Answers : {A B F : Type 0} → (A → B) → Result B F → Result A F → Type 0
Answers view wanted (Ok a) = wanted ≡ Ok (view a)
Answers view wanted (Err fault) = wanted ≡ Err fault

-- each item in its turn: all that they are, or the first fault
unfoldable pub each_of : {A B F : Type 0} → (A → Result B F) → List A → Result (List B) F
each_of f [] = Ok []
each_of f (x ∷ xs) = do
  y ← f x
  ys ← each_of f xs
  Ok (y ∷ ys)
