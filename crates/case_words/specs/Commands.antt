-- The commands as they are spelled, and the keys of each.
use Rattle.std.specs.Prelude.{ℕ, List, [], ◌∷◌, Bool, true, false, if◌then◌else◌, Option, Some, None, codes}
use Rattle.std.specs.Str.{bytes_eq}
use Rattle.case_words.specs.declared.boundaries.By.{By}
use Rattle.case_words.specs.declared.boundaries.By.TheVariants.{Pressure, Temperature}
use Rattle.case_words.specs.declared.boundaries.Side.TheVariants.{Bubble, Dew}
use Rattle.case_words.specs.declared.commands.Command.{Command}
use Rattle.case_words.specs.declared.commands.Command.TheVariants.{Tp, Cert, Check, Edge}
use Rattle.case_words.specs.declared.keys.Key.{Key}
use Rattle.case_words.specs.declared.keys.Key.TheVariants.{T, P, Lo, Hi, Width, Z, Names, Tol, Budget}

-- the command that is spelled so
unfoldable pub command_of : List ℕ → Option Command
command_of word =
    if bytes_eq word (codes "tp") then Some Tp
    else (if bytes_eq word (codes "cert") then Some Cert
    else (if bytes_eq word (codes "bubble-p") then Some (Edge Pressure Bubble)
    else (if bytes_eq word (codes "dew-p") then Some (Edge Pressure Dew)
    else (if bytes_eq word (codes "bubble-t") then Some (Edge Temperature Bubble)
    else (if bytes_eq word (codes "dew-t") then Some (Edge Temperature Dew)
    else (if bytes_eq word (codes "check") then Some Check
    else None))))))

-- the keys that must stand, in the order in which a missing one is named
abbrev pub keys_of : Command → List Key
keys_of Tp = T ∷ P ∷ Z ∷ Names ∷ Tol ∷ Budget ∷ []
keys_of Cert = T ∷ P ∷ Z ∷ Names ∷ Tol ∷ Budget ∷ []
keys_of Check = []
keys_of (Edge Pressure side) = T ∷ Lo ∷ Hi ∷ Width ∷ Z ∷ Names ∷ Tol ∷ Budget ∷ []
keys_of (Edge Temperature side) = P ∷ Lo ∷ Hi ∷ Width ∷ Z ∷ Names ∷ Tol ∷ Budget ∷ []

-- a word may say the edition of the equation
abbrev pub takes_edition : Command → Bool
takes_edition Check = false
takes_edition _ = true

-- the quantity of `lo`, `hi` and `width`, where the command has these keys
abbrev pub searched_by : Command → By
searched_by (Edge by side) = by
searched_by _ = Temperature
