-- The keys as they are spelled.
use Rattle.std.specs.Prelude.{ℕ, List, ◌&&◌, if◌then◌else◌, Option, Some, codes}
use Rattle.std.specs.List.{find}
use Rattle.std.specs.Option.{option_map}
use Rattle.std.specs.Str.{bytes_eq}
use Rattle.case_words.specs.Commands.{keys_of, takes_edition}
use Rattle.case_words.specs.declared.commands.Command.{Command}
use Rattle.case_words.specs.declared.keys.FlashKey.{FlashKey}
use Rattle.case_words.specs.declared.keys.FlashKey.TheVariants.{Needed, Kappa}
use Rattle.case_words.specs.declared.keys.Key.{Key}
use Rattle.case_words.specs.declared.keys.Key.TheVariants.{T, P, Lo, Hi, Width, Z, Names, Tol, Budget}

-- the text of a key
abbrev pub key_text : Key → List ℕ
key_text T = codes "T"
key_text P = codes "P"
key_text Lo = codes "lo"
key_text Hi = codes "hi"
key_text Width = codes "width"
key_text Z = codes "z"
key_text Names = codes "names"
key_text Tol = codes "tol"
key_text Budget = codes "budget"

-- the key among these that is spelled so
abbrev pub key_among : List Key → List ℕ → Option Key
key_among keys bytes = find (λ key. bytes_eq (key_text key) bytes) keys

-- the key of a command that is spelled so: the edition of the equation, or a key that must stand
unfoldable pub key_of : Command → List ℕ → Option FlashKey
key_of command bytes =
    if takes_edition command && bytes_eq bytes (codes "kappa") then Some Kappa
    else option_map Needed (key_among (keys_of command) bytes)
