-- What writing a whole list did.
use Rattle.std.specs.Prelude.{◌≡◌, ℕ, ◌<◌, List, length, take}
use Rattle.std.specs.declared.option.Option.{Option}
use Rattle.io_edge.specs.Causes.{CountsFault}
use Rattle.io_edge.specs.Bytes.{behind}

-- all the bytes were appended
pub record WritesAll (bytes : List ℕ) (held held' : Option (List ℕ)) (faults faults' : ℕ) : Type 0 where
  pub appended : held' ≡ behind held bytes
  pub no_fault : faults' ≡ faults

-- some first bytes, but not all, were appended, and then a call failed
pub record WritesSome (bytes : List ℕ) (held held' : Option (List ℕ)) (faults faults' : ℕ) : Type 0 where
  pub count : ℕ
  pub fits : count < length bytes
  pub appended : held' ≡ behind held (take count bytes)
  pub fault : CountsFault faults faults'
