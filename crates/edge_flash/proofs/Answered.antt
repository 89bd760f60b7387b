-- What the ends of an answer mean.
use Rattle.std.proofs.Common.{ℕ, Bool, true, false, Result, Ok, Err, IfOk, arith}
use Rattle.std.specs.Prelude.{if◌then◌else◌}
use Rattle.case_types.specs.declared.cases.Case.{Case}
use Rattle.case_types.specs.declared.edges.EdgeAnswer.{EdgeAnswer}
use Rattle.case_types.specs.declared.edges.EdgeAnswer.TheVariants.{Bracket, NoEdge, Stopped, Refused}
use Rattle.case_types.specs.declared.edges.EdgeEnd.{EdgeEnd}
use Rattle.case_types.specs.Brackets.{Search, Hand, hand, middle, Walk}
use Rattle.case_types.specs.Brackets.Walk.{Begins, Halves}
use Rattle.case_words.specs.declared.boundaries.EdgeWords.{EdgeWords}
use Rattle.energy_surface.specs.Surfaces.{Surface}
use Rattle.edge_flash.specs.Ends.{SaysAt, SaysKind, SayKinds}
use Rattle.edge_flash.specs.Fibres.{IsWalk, WalksHold}
use Rattle.edge_flash.specs.Places.{IsEndOf, Bisected, in_hand}
use Rattle.edge_flash.proofs.EndKinds.{end_kind}

-- ---- the ends in hand of a walk are those of their places
record HoldsEnds (IsEnd : ℕ → EdgeEnd → Type 0) (h : Hand EdgeEnd) : Type 0 where
  lower : IsEnd h.lo h.lower
  upper : IsEnd h.hi h.upper

ends_held : (IsEnd : ℕ → EdgeEnd → Type 0) (s : Search EdgeEnd) (h : Hand EdgeEnd) → Walk IsEnd s h → HoldsEnds IsEnd h
ends_held IsEnd s _ (Begins lower upper a b pair) = record { lower = a; upper = b }
ends_held IsEnd s _ (Halves h end walk wide is) = by_test (s.is_lower h.lower end) (ends_held IsEnd s h walk)
  where
    by_test : (b : Bool) → HoldsEnds IsEnd h → HoldsEnds IsEnd (if b then hand (middle h) h.hi end h.upper else hand h.lo (middle h) h.lower end)
    by_test true k = record { lower = is; upper = k.upper }
    by_test false k = record { lower = k.lower; upper = is }

-- ---- the ends of an answer
kind_said : (surface : Case → Surface) (is_walk : IsWalk) → WalksHold is_walk → (c : Case) (job : EdgeWords) (place : ℕ) (end : EdgeEnd) →
    IsEndOf (SaysAt surface is_walk c job) place end → SaysKind c job end
kind_said surface is_walk hold c job place end h = record {
  there = h.said.there;
  is_there = rw h.at h.said.is_there;
  is_kind = end_kind (surface h.said.there) is_walk hold h.said.there job.base.tol job.base.budget end (omega (arith, job.base.tol_low)) h.said.says;
}

kinds_said : (surface : Case → Surface) (is_walk : IsWalk) → WalksHold is_walk → (c : Case) (job : EdgeWords) (s : Search EdgeEnd) (answer : EdgeAnswer) →
    Bisected (SaysAt surface is_walk c job) s answer → SayKinds c job answer
kinds_said surface is_walk hold c job s (Bracket lo hi) h =
    let k = ends_held (IsEndOf (SaysAt surface is_walk c job)) s (in_hand lo hi) h.0 in
    (kind_said surface is_walk hold c job lo.at lo k.lower, kind_said surface is_walk hold c job hi.at hi k.upper)
kinds_said surface is_walk hold c job s (NoEdge lo hi) h = (kind_said surface is_walk hold c job s.lo lo h.0, kind_said surface is_walk hold c job s.hi hi h.1)
kinds_said surface is_walk hold c job s (Stopped at outcome units) h = tt
kinds_said surface is_walk hold c job s (Refused at fault) h = tt

pub answer_says : {E : Type 0} (surface : Case → Surface) (is_walk : IsWalk) → WalksHold is_walk → (c : Case) (job : EdgeWords) (s : Search EdgeEnd)
    (r : Result EdgeAnswer E) → IfOk r (Bisected (SaysAt surface is_walk c job) s) → IfOk r (SayKinds c job)
answer_says surface is_walk hold c job s (Ok answer) h = kinds_said surface is_walk hold c job s answer h
answer_says surface is_walk hold c job s (Err fault) h = tt
