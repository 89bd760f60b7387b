-- Pieces of text, one behind the other.
use Rattle.std.specs.Prelude.{ℕ, zero, suc, ◌*◌, ◌/◌, ◌^◌, List, [], ◌++◌, pos, codes}
use Rattle.std.specs.Fmt.{signed_decimal}
use Rattle.case_types.specs.declared.answers.Outcome.{Outcome}
use Rattle.case_types.specs.declared.answers.Outcome.TheVariants.{Closed, Spent, Grain}
use Rattle.dec_text.specs.Printed.{fixed_text}
use Rattle.log_laws.specs.Between.{Ends}

-- the texts of 0, 1, .. below n
abbrev pub texts_below : ℕ → (ℕ → List ℕ) → List ℕ
texts_below zero f = []
texts_below (suc n) f = texts_below n f ++ f n

-- a label, a number and the end of the line
abbrev pub line : List ℕ → List ℕ → List ℕ
line label number = label ++ number ++ codes "\n"

-- a label and two ends
abbrev pub ends_line : List ℕ → Ends → List ℕ
ends_line label v = label ++ signed_decimal v.lo ++ line (codes " ") (signed_decimal v.hi)

-- a part in millionths of a whole, down, with six places; of no whole it is 0
abbrev pub millionths_text : ℕ → ℕ → List ℕ
millionths_text part whole = fixed_text (pos (part * 10 ^ 6 / whole)) 6

-- how a flash ended
abbrev pub outcome_text : Outcome → List ℕ
outcome_text Closed = codes "closed"
outcome_text Spent = codes "open spent"
outcome_text (Grain cell) = codes "open grain"
