-- What reading a source to its end did.
use Rattle.std.specs.Prelude.{◌≡◌, ℕ, ◌+◌, ◌≤◌, List, length}
use Rattle.std.specs.declared.option.Option.{Option}
use Rattle.io_edge.specs.Causes.{CountsFault}
use Rattle.io_edge.specs.Bytes.{ahead, IsSpent}
use Rattle.io_edge.specs.declared.reading.ReadStop.{ReadStop}
use Rattle.io_edge.specs.declared.reading.ReadStop.TheVariants.{Failed, TooLong, Memory}

-- these bytes were all that was left
pub record ReadsAll (bytes : List ℕ) (limit : ℕ) (left left' : Option (List ℕ)) (faults faults' : ℕ) : Type 0 where
  pub short : length bytes ≤ limit
  pub taken : left ≡ ahead bytes left'
  pub ended : IsSpent left'
  pub no_fault : faults' ≡ faults

-- some bytes, at most this many, were taken
pub record TakesAtMost (most : ℕ) (left left' : Option (List ℕ)) : Type 0 where
  pub bytes : List ℕ
  pub short : length bytes ≤ most
  pub taken : left ≡ ahead bytes left'

-- so many bytes were taken
pub record TakesExactly (count : ℕ) (left left' : Option (List ℕ)) : Type 0 where
  pub bytes : List ℕ
  pub counted : length bytes ≡ count
  pub taken : left ≡ ahead bytes left'

-- why it stopped before the end
abbrev pub StopsReading : ReadStop → ℕ → Option (List ℕ) → Option (List ℕ) → ℕ → ℕ → Type 0
StopsReading Failed limit left left' faults faults' = TakesAtMost limit left left' × CountsFault faults faults'
StopsReading TooLong limit left left' faults faults' = TakesExactly (limit + 1) left left' × (faults' ≡ faults)
StopsReading Memory limit left left' faults faults' = TakesAtMost (limit + 1) left left' × (faults' ≡ faults)
