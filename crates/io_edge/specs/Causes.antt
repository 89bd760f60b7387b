-- When a fault may be answered.
use Rattle.std.specs.Prelude.{ℕ, ◌+◌, ◌-◌, ◌^◌, ◌≤◌, min}

-- the count rose, or stands at the last value of a counter
abbrev pub Rose : ℕ → ℕ → Type 0
Rose before now = min (before + 1) (2 ^ 64 - 1) ≤ now

-- one fault was counted, and no more
pub record CountsFault (faults faults' : ℕ) : Type 0 where
  pub rose : Rose faults faults'
  pub kept : faults ≤ faults'
  pub once : faults' ≤ faults + 1
