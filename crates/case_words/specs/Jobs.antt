-- What the words ask for, or their first fault.
use Rattle.std.specs.Prelude.{ℕ, ◌+◌, List, [], ◌∷◌, length, Bool, ◌==◌, nat_lt, if◌then◌else◌, Option, Some, None, is_some, unwrap_or, Result, Ok, Err}
use Rattle.std.specs.List.{position_or_len, before_first, after_first}
use Rattle.case_words.specs.Answers.{◌>>=◌, when}
use Rattle.case_words.specs.Keys.{key_of}
use Rattle.case_words.specs.Commands.{command_of, searched_by}
use Rattle.case_words.specs.Counts.{is_as_many, count_of, are_ordered}
use Rattle.case_words.specs.Items.{number_of, quantity_of, width_of, edition_of, parts_of, names_of}
use Rattle.case_types.specs.declared.cases.Edition.{Edition}
use Rattle.case_types.specs.declared.cases.Edition.TheVariants.{Y1976}
use Rattle.case_words.specs.declared.boundaries.By.{By}
use Rattle.case_words.specs.declared.boundaries.By.TheVariants.{Pressure, Temperature}
use Rattle.case_words.specs.declared.boundaries.Side.{Side}
use Rattle.case_words.specs.declared.commands.Command.{Command}
use Rattle.case_words.specs.declared.commands.Command.TheVariants.{Tp, Cert, Check, Edge}
use Rattle.case_words.specs.declared.keys.FlashKey.{FlashKey}
use Rattle.case_words.specs.declared.keys.FlashKey.TheVariants.{Needed, Kappa}
use Rattle.case_words.specs.declared.keys.Key.{Key}
use Rattle.case_words.specs.declared.keys.Key.TheVariants.{T, P, Lo, Hi, Width, Z, Names, Tol, Budget}
use Rattle.case_words.specs.declared.faults.WordFault.{WordFault}
use Rattle.case_words.specs.declared.faults.WordFault.TheVariants.{NoCommand, Unknown, Twice, Range, Count, Missing}

-- what a flash is asked of: mK, Pa, the parts of the feed, the names, the tolerance, the budget and the edition
pub record Asked : Type 0 where
  pub t : ℕ
  pub p : ℕ
  pub z : List ℕ
  pub names : List (List ℕ)
  pub tol : ℕ
  pub budget : ℕ
  pub edition : Edition

-- what a search for a phase boundary is asked of: a flash at its lower end, the quantity that it goes over, the wanted side, the ends and the width
pub record EdgeAsked : Type 0 where
  pub base : Asked
  pub by : By
  pub side : Side
  pub lo : ℕ
  pub hi : ℕ
  pub width : ℕ

-- what the words have given so far
pub record Gathered : Type 0 where
  pub t : Option ℕ
  pub p : Option ℕ
  pub lo : Option ℕ
  pub hi : Option ℕ
  pub width : Option ℕ
  pub z : Option (List ℕ)
  pub names : Option (List (List ℕ))
  pub tol : Option ℕ
  pub budget : Option ℕ
  pub edition : Option Edition

abbrev pub nothing : Gathered
nothing = record { t = None; p = None; lo = None; hi = None; width = None; z = None; names = None; tol = None; budget = None; edition = None }

-- the key stood before
abbrev pub needed_stands : Gathered → Key → Bool
needed_stands g T = is_some g.t
needed_stands g P = is_some g.p
needed_stands g Lo = is_some g.lo
needed_stands g Hi = is_some g.hi
needed_stands g Width = is_some g.width
needed_stands g Z = is_some g.z
needed_stands g Names = is_some g.names
needed_stands g Tol = is_some g.tol
needed_stands g Budget = is_some g.budget

abbrev pub stands : Gathered → FlashKey → Bool
stands g (Needed key) = needed_stands g key
stands g Kappa = is_some g.edition

-- the lower end of a search over this quantity, which lies below an upper end that stands
unfoldable pub lo_of : ℕ → By → Gathered → List ℕ → Result ℕ WordFault
lo_of place by g value = do
  lo ← quantity_of place by value
  when (are_ordered (Some lo) g.hi) lo (Range place)

-- the upper end, which lies above a lower end that stands
unfoldable pub hi_of : ℕ → By → Gathered → List ℕ → Result ℕ WordFault
hi_of place by g value = do
  hi ← quantity_of place by value
  when (are_ordered g.lo (Some hi)) hi (Range place)

-- the feed, as long as the list of names where that stands
unfoldable pub feed_of : ℕ → Gathered → List ℕ → Result (List ℕ) WordFault
feed_of place g value = do
  parts ← parts_of place value
  when (is_as_many (length parts) (count_of g.names)) parts (Count place)

-- the names, as many as the feed has parts where that stands
unfoldable pub called_of : ℕ → Gathered → List ℕ → Result (List (List ℕ)) WordFault
called_of place g value = do
  names ← names_of place value
  when (is_as_many (length names) (count_of g.z)) names (Count place)

-- with the value of a key that must stand, in a search over this quantity
unfoldable pub with_needed : ℕ → By → Gathered → Key → List ℕ → Result Gathered WordFault
with_needed place by g T value = do
  t ← quantity_of place Temperature value
  Ok (record g { t = Some t })
with_needed place by g P value = do
  p ← quantity_of place Pressure value
  Ok (record g { p = Some p })
with_needed place by g Lo value = do
  lo ← lo_of place by g value
  Ok (record g { lo = Some lo })
with_needed place by g Hi value = do
  hi ← hi_of place by g value
  Ok (record g { hi = Some hi })
with_needed place by g Width value = do
  width ← width_of place by value
  Ok (record g { width = Some width })
with_needed place by g Z value = do
  parts ← feed_of place g value
  Ok (record g { z = Some parts })
with_needed place by g Names value = do
  names ← called_of place g value
  Ok (record g { names = Some names })
with_needed place by g Tol value = do
  tol ← number_of place 0 128 1048576 value
  Ok (record g { tol = Some tol })
with_needed place by g Budget value = do
  budget ← number_of place 0 1 10000000 value
  Ok (record g { budget = Some budget })

-- with the value of a key
unfoldable pub with_value : ℕ → By → Gathered → FlashKey → List ℕ → Result Gathered WordFault
with_value place by g (Needed key) value = with_needed place by g key value
with_value place by g Kappa value = do
  edition ← edition_of place value
  Ok (record g { edition = Some edition })

-- with a key that stands for the first time
abbrev pub with_key : ℕ → By → Gathered → Option FlashKey → List ℕ → Result Gathered WordFault
with_key place by g None value = Err (Unknown place)
with_key place by g (Some key) value = if stands g key then Err (Twice place) else with_value place by g key value

abbrev pub is_equals : ℕ → Bool
is_equals b = b == 61

-- with the word at a place: the key ends at its first `=`
unfoldable pub with_word : Command → ℕ → Gathered → List ℕ → Result Gathered WordFault
with_word command place g word =
    if nat_lt (position_or_len is_equals word) (length word)
    then with_key place (searched_by command) g (key_of command (before_first is_equals word)) (after_first is_equals word)
    else Err (Unknown place)

-- with these words, the first at this place
unfoldable pub with_words : Command → ℕ → Gathered → List (List ℕ) → Result Gathered WordFault
with_words command place g [] = Ok g
with_words command place g (word ∷ words) = do
  more ← with_word command place g word
  with_words command (place + 1) more words

-- what a key has given
abbrev pub given : {A : Type 0} → Key → Option A → Result A WordFault
given key None = Err (Missing key)
given key (Some a) = Ok a

-- a flash at this temperature and pressure, or the first of its further keys that didn't stand; where no word says the edition, it is that of 1976
unfoldable pub asked_at : ℕ → ℕ → Gathered → Result Asked WordFault
asked_at t p g = do
  z ← given Z g.z
  names ← given Names g.names
  tol ← given Tol g.tol
  budget ← given Budget g.budget
  Ok (record { t = t; p = p; z = z; names = names; tol = tol; budget = budget; edition = unwrap_or g.edition Y1976 })

-- all that is asked of a flash, or the first key that didn't stand
unfoldable pub asked_of : Gathered → Result Asked WordFault
asked_of g = do
  t ← given T g.t
  p ← given P g.p
  asked_at t p g

-- the quantity that a search doesn't go over
abbrev pub fixed_of : By → Gathered → Result ℕ WordFault
fixed_of Pressure g = given T g.t
fixed_of Temperature g = given P g.p

-- a flash at this place of a search, with this other quantity
abbrev pub asked_there : By → ℕ → ℕ → Gathered → Result Asked WordFault
asked_there Pressure fixed place g = asked_at fixed place g
asked_there Temperature fixed place g = asked_at place fixed g

-- all that is asked of a search for a phase boundary, or the first key that didn't stand
unfoldable pub edge_of : By → Side → Gathered → Result EdgeAsked WordFault
edge_of by side g = do
  fixed ← fixed_of by g
  lo ← given Lo g.lo
  hi ← given Hi g.hi
  width ← given Width g.width
  base ← asked_there by fixed lo g
  Ok (record { base = base; by = by; side = side; lo = lo; hi = hi; width = width })

-- a job as its command and what it asks
pub data PlainJob : Type 0 where
  PlainTp : Asked → PlainJob
  PlainCert : Asked → PlainJob
  PlainCheck : PlainJob
  PlainEdge : EdgeAsked → PlainJob

-- the job of a command with what its words have given
unfoldable pub job_from : Command → Gathered → Result PlainJob WordFault
job_from Tp g = do
  asked ← asked_of g
  Ok (PlainTp asked)
job_from Cert g = do
  asked ← asked_of g
  Ok (PlainCert asked)
job_from Check g = Ok PlainCheck
job_from (Edge by side) g = do
  asked ← edge_of by side g
  Ok (PlainEdge asked)

-- the job of a command with its further words, the first of them being word 2
unfoldable pub job_with : Command → List (List ℕ) → Result PlainJob WordFault
job_with command words = with_words command 2 nothing words >>= job_from command

-- the same, where the first word is a command
abbrev pub job_where : Option Command → List (List ℕ) → Result PlainJob WordFault
job_where None words = Err NoCommand
job_where (Some command) words = job_with command words

-- the job of the words, or their first fault: places count from 1, the command being word 1
unfoldable pub job_of : List (List ℕ) → Result PlainJob WordFault
job_of [] = Err NoCommand
job_of (command ∷ words) = job_where (command_of command) words
