-- What the ends in memory hold, and which of their calls fail.
use Rattle.std.specs.Prelude.{ℕ, ◌+◌, ◌-◌, ◌^◌, List, Bool, Contains, length, min}

-- what an end in memory was told to do
pub record Plan : Type 0 where
  -- the most bytes that one call moves
  pub piece : ℕ
  -- the numbers, from 1, of the calls that fail
  pub fails : List ℕ

-- a source in memory
pub record SourceState : Type 0 where
  pub left : List ℕ
  pub plan : Plan
  pub calls : ℕ
  pub faults : ℕ
  pub failed : Bool

-- a sink in memory, with the number of bytes that it still takes
pub record SinkState : Type 0 where
  pub held : List ℕ
  pub room : ℕ
  pub plan : Plan
  pub calls : ℕ
  pub faults : ℕ
  pub failed : Bool

-- the number of calls after one more, which stops at the last value of a counter
abbrev pub next_call : ℕ → ℕ
next_call calls = min (calls + 1) (2 ^ 64 - 1)

-- the plan has the next call fail
abbrev pub IsDue : Plan → ℕ → Type 0
IsDue plan calls = Contains plan.fails (next_call calls)

-- how many bytes the next call gives to this much space, where it does not fail
abbrev pub given_count : SourceState → ℕ → ℕ
given_count source space = min (min source.plan.piece space) (length source.left)

-- how many of this many bytes the next call appends, where it does not fail
abbrev pub appended_count : SinkState → ℕ → ℕ
appended_count sink offered = min (min sink.plan.piece offered) sink.room
