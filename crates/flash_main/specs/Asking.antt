-- What the program is asked of itself.
use Rattle.std.specs.Prelude.{ℕ, List, [], ◌∷◌, if◌then◌else◌, Option, Some, None, codes}
use Rattle.std.specs.Str.{bytes_eq}

-- the text that the only word asks for: the help, or the version
abbrev pub text_asked : List ℕ → List ℕ → List (List ℕ) → Option (List ℕ)
text_asked help version [] = None
text_asked help version (word ∷ []) =
    if bytes_eq word (codes "--help") then Some help
    else (if bytes_eq word (codes "--version") then Some version else None)
text_asked help version (word ∷ more ∷ words) = None
