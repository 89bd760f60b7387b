-- What a source has left and what a sink holds, where they tell it.
use Rattle.std.specs.Prelude.{◌≡◌, ℕ, ◌<◌, ◌≤◌, List, [], ◌++◌, length, take, Bool, true, false, IfSome}
use Rattle.std.specs.declared.option.Option.{Option}
use Rattle.std.specs.Option.{option_map}
use Rattle.io_edge.specs.Causes.{CountsFault}
use Rattle.io_edge.specs.declared.Taken.{Taken}
use Rattle.io_edge.specs.declared.Taken.TheVariants.{Bytes, End, Failed}
use Rattle.io_edge.specs.declared.Put.{Put}
use Rattle.io_edge.specs.declared.Put.TheVariants as put

-- these bytes, and then what is left
abbrev pub ahead : List ℕ → Option (List ℕ) → Option (List ℕ)
ahead bytes left = option_map (λ rest. bytes ++ rest) left

-- what was held, and then these bytes
abbrev pub behind : Option (List ℕ) → List ℕ → Option (List ℕ)
behind held bytes = option_map (λ before. before ++ bytes) held

-- no byte is left, where that is told
abbrev pub IsSpent : Option (List ℕ) → Type 0
IsSpent left = IfSome left (λ rest. rest ≡ [])

-- no byte was left, and nothing changed
pub record Ends (left left' : Option (List ℕ)) (faults faults' : ℕ) : Type 0 where
  pub spent : IsSpent left
  pub bytes_stay : left' ≡ left
  pub faults_stay : faults' ≡ faults

-- the bytes stay as they were, and one fault was counted
pub record Fails (bytes bytes' : Option (List ℕ)) (faults faults' : ℕ) : Type 0 where
  pub bytes_stay : bytes' ≡ bytes
  pub fault : CountsFault faults faults'

-- the next n bytes were taken
pub record TakesBytes (n : ℕ) (buf : List ℕ) (left left' : Option (List ℕ)) (faults faults' : ℕ) : Type 0 where
  pub some : 0 < n
  pub fits : n ≤ length buf
  pub next : left ≡ ahead (take n buf) left'
  pub faults_stay : faults' ≡ faults

-- the first n bytes were appended
pub record PutsBytes (n : ℕ) (piece : List ℕ) (held held' : Option (List ℕ)) (faults faults' : ℕ) : Type 0 where
  pub some : 0 < n
  pub fits : n ≤ length piece
  pub appended : held' ≡ behind held (take n piece)
  pub faults_stay : faults' ≡ faults

-- what one call of a source did, by its answer
abbrev pub TakesOnce : Taken → List ℕ → Option (List ℕ) → Option (List ℕ) → ℕ → ℕ → Type 0
TakesOnce (Bytes n) buf left left' faults faults' = TakesBytes n buf left left' faults faults'
TakesOnce End buf left left' faults faults' = Ends left left' faults faults'
TakesOnce Failed buf left left' faults faults' = Fails left left' faults faults'

-- what one call of a sink did, by its answer
abbrev pub PutsOnce : Put → List ℕ → Option (List ℕ) → Option (List ℕ) → ℕ → ℕ → Type 0
PutsOnce (put.Wrote n) piece held held' faults faults' = PutsBytes n piece held held' faults faults'
PutsOnce put.Failed piece held held' faults faults' = Fails held held' faults faults'

-- whether the answer is a fault
abbrev pub take_failed : Taken → Bool
take_failed Failed = true
take_failed _ = false

abbrev pub put_failed : Put → Bool
put_failed put.Failed = true
put_failed (put.Wrote n) = false
