-- Which ends a phase boundary lies between, and what a search over places answers, whatever is said of the places.
use Rattle.std.specs.Prelude.{ℕ, ◌≡◌, ◌+◌, ◌-◌, ◌≤◌, ◌<◌, Bool, true, false, not, ◌&&◌, ◌||◌, IsFalse}
use Rattle.case_types.specs.declared.edges.EdgeAnswer.{EdgeAnswer}
use Rattle.case_types.specs.declared.edges.EdgeAnswer.TheVariants.{Bracket, NoEdge, Stopped, Refused}
use Rattle.case_types.specs.declared.edges.EdgeEnd.{EdgeEnd}
use Rattle.case_types.specs.declared.edges.Kind.{Kind}
use Rattle.case_types.specs.declared.edges.Kind.TheVariants.{Divided, Liquid, Vapour}
use Rattle.case_types.specs.Brackets.{Search, Hand, hand, Walk, IsNext}
use Rattle.case_words.specs.declared.boundaries.Side.{Side}
use Rattle.case_words.specs.declared.boundaries.Side.TheVariants.{Bubble, Dew}
use Rattle.edge_flash.specs.declared.classed.Classed.{Classed}
use Rattle.edge_flash.specs.declared.classed.Classed.TheVariants.{End, Open, Param}

-- ---- kinds
abbrev pub is_divided : Kind → Bool
is_divided Divided = true
is_divided Liquid = false
is_divided Vapour = false

-- the whole kind that is looked for: liquid beside a bubble point, vapour beside a dew point
abbrev pub is_wanted : Side → Kind → Bool
is_wanted Bubble Liquid = true
is_wanted Bubble Divided = false
is_wanted Bubble Vapour = false
is_wanted Dew Vapour = true
is_wanted Dew Divided = false
is_wanted Dew Liquid = false

-- one of the two is divided, and the other is of the wanted kind
abbrev pub is_pair : Side → Kind → Kind → Bool
is_pair side a b = is_divided a && is_wanted side b || is_wanted side a && is_divided b

-- both are divided, or both are whole
abbrev pub are_alike : Kind → Kind → Bool
are_alike a b = is_divided a && is_divided b || not (is_divided a || is_divided b)

-- ---- the search
-- from one place to another, down to a width; a middle takes the place of the end that is divided as it is
abbrev pub boundary : Side → ℕ → ℕ → ℕ → Search EdgeEnd
boundary side lo hi width = record {
  lo = lo;
  hi = hi;
  width = width;
  is_pair = λ lower upper. is_pair side lower.kind upper.kind;
  is_lower = λ lower end. are_alike lower.kind end.kind;
}

-- an end carries its place
abbrev pub StandsAt : ℕ → Classed → Type 0
StandsAt place (End end) = end.at ≡ place
StandsAt place (Open outcome units) = Unit {0}
StandsAt place (Param fault) = Unit {0}

-- the end that is said of a place
pub record IsEndOf (says : ℕ → Classed → Type 0) (place : ℕ) (end : EdgeEnd) : Type 0 where
  pub at : end.at ≡ place
  pub said : says place (End end)

-- two ends in hand, at the places that they carry
abbrev pub in_hand : EdgeEnd → EdgeEnd → Hand EdgeEnd
in_hand lower upper = hand lower.at upper.at lower upper

-- ---- its answer
-- a bracket has the ends in hand of a walk that are no longer wide apart; where there is no edge, both given ends were asked, and they
-- aren't the pair that is looked for; a search stops, or is refused, at the place that is next
abbrev pub Bisected : (ℕ → Classed → Type 0) → Search EdgeEnd → EdgeAnswer → Type 0
Bisected says s (Bracket lo hi) = Walk (IsEndOf says) s (in_hand lo hi) × (hi.at - lo.at ≤ s.width)
Bisected says s (NoEdge lo hi) = IsEndOf says s.lo lo × IsEndOf says s.hi hi × IsFalse (s.is_pair lo hi)
Bisected says s (Stopped at outcome units) = IsNext (IsEndOf says) s at × says at (Open outcome units)
Bisected says s (Refused at fault) = IsNext (IsEndOf says) s at × says at (Param fault)

-- one of the ends is divided and the other is whole, and both lie in the given range, at most the width apart
pub record Encloses (s : Search EdgeEnd) (lower upper : EdgeEnd) : Type 0 where
  pub differ : are_alike lower.kind upper.kind ≡ false
  pub low : s.lo ≤ lower.at
  pub ordered : lower.at < upper.at
  pub high : upper.at ≤ s.hi
  pub near : upper.at ≤ lower.at + s.width

abbrev pub EnclosesIfBracket : Search EdgeEnd → EdgeAnswer → Type 0
EnclosesIfBracket s (Bracket lo hi) = Encloses s lo hi
EnclosesIfBracket s (NoEdge lo hi) = Unit {0}
EnclosesIfBracket s (Stopped at outcome units) = Unit {0}
EnclosesIfBracket s (Refused at fault) = Unit {0}
