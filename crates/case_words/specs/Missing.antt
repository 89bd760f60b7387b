-- The first key of a command that didn't stand.
use Rattle.std.specs.Prelude.{◌≡◌, ⊤, not, Option, Some, None, Result, Ok, Err}
use Rattle.std.specs.List.{find}
use Rattle.case_words.specs.Commands.{keys_of}
use Rattle.case_words.specs.Jobs.{Gathered, needed_stands}
use Rattle.case_words.specs.declared.commands.Command.{Command}
use Rattle.case_words.specs.declared.faults.WordFault.{WordFault}
use Rattle.case_words.specs.declared.faults.WordFault.TheVariants.{Missing}
use Rattle.case_words.specs.declared.keys.Key.{Key}

abbrev pub first_missing : Command → Gathered → Option Key
first_missing command g = find (λ key. not (needed_stands g key)) (keys_of command)

-- the key that is missing is named, and where there is none all is good
abbrev pub IsNamed : {A : Type 0} → Option Key → Result A WordFault → Type 0
IsNamed (Some key) r = r ≡ Err (Missing key)
IsNamed None (Ok a) = ⊤
IsNamed None (Err fault) = ⊥
