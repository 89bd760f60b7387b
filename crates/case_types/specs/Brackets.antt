-- How a search for a change between two places goes: each place has an end, and what lies between two ends is halved.
use Rattle.std.specs.Prelude.{ℕ, ◌+◌, ◌-◌, ◌/◌, ◌<◌, Bool, if◌then◌else◌, IsTrue}

-- what is looked for from one place to another, down to a width
pub record Search (E : Type 0) : Type 0 where
  pub lo : ℕ
  pub hi : ℕ
  pub width : ℕ
  -- the ends of the two places are the wanted ones: something changes from the first to the second
  pub is_pair : E → E → Bool
  -- beside the lower end in hand: the end in the middle takes its place, and not that of the upper end
  pub is_lower : E → E → Bool

-- the ends in hand, and their places
pub record Hand (E : Type 0) : Type 0 where
  pub lo : ℕ
  pub hi : ℕ
  pub lower : E
  pub upper : E

abbrev pub hand : {E : Type 0} → ℕ → ℕ → E → E → Hand E
hand lo hi lower upper = record { lo = lo; hi = hi; lower = lower; upper = upper }

-- the place between them
abbrev pub middle : {E : Type 0} → Hand E → ℕ
middle h = (h.lo + h.hi) / 2

-- they are further apart than the width
abbrev pub IsWide : {E : Type 0} → Search E → Hand E → Type 0
IsWide s h = s.width < h.hi - h.lo

-- the ends in hand after the middle's
abbrev pub with_middle : {E : Type 0} → Search E → Hand E → E → Hand E
with_middle s h end = if s.is_lower h.lower end then hand (middle h) h.hi end h.upper else hand h.lo (middle h) h.lower end

-- the search has come to these ends in hand, every end that it worked being as `IsEnd` says of its place
pub data Walk {E : Type 0} (IsEnd : ℕ → E → Type 0) (s : Search E) : Hand E → Type 0 where
  Begins : (lower upper : E) → IsEnd s.lo lower → IsEnd s.hi upper → IsTrue (s.is_pair lower upper) → Walk IsEnd s (hand s.lo s.hi lower upper)
  Halves : (h : Hand E) (end : E) → Walk IsEnd s h → IsWide s h → IsEnd (middle h) end → Walk IsEnd s (with_middle s h end)

-- the place that such a search works next: the first, then the second, then middles
pub data IsNext {E : Type 0} (IsEnd : ℕ → E → Type 0) (s : Search E) : ℕ → Type 0 where
  Lower : IsNext IsEnd s s.lo
  Upper : (lower : E) → IsEnd s.lo lower → IsNext IsEnd s s.hi
  Middle : (h : Hand E) → Walk IsEnd s h → IsWide s h → IsNext IsEnd s (middle h)
