-- A walk goes on by one step, and ends.
use Rattle.std.proofs.Common.{◌≡◌, ℕ, ◌⊎◌, ◌+◌, ◌-◌, ◌^◌, ◌<◌, ◌≤◌, List, [], ◌∷◌, true, false, Option, Some, None, ℤ, ◌-ℤ◌, ◌≤ℤ◌, ◌<ℤ◌, int_le, unsigned_abs, IfSome, IfNone, inl, inr, refl, ap, sym, subst, ◌∙◌, arith}
use Rattle.case_types.specs.declared.parts.PackingLogs.{PackingLogs}
use Rattle.case_types.specs.Arithmetic.Bounds.{Box}
use Rattle.energy_surface.specs.Surfaces.{Surface}
use Rattle.split_energies.specs.declared.scans.Scanned.{Scanned}
use Rattle.split_energies.specs.Scanned.{state_at}
use Rattle.fibre_bound.specs.declared.cells.Cell.{Cell}
use Rattle.fibre_bound.specs.declared.fibres.Fibre.{Fibre}
use Rattle.fibre_bound.specs.Cells.{IsCell, AreCells, span_of, spans_of}
use Rattle.fibre_bound.specs.Lows.{least_of}
use Rattle.fibre_bound.specs.Walks.{Question, span, middle, low_of, Trail, IsOpen, IsNoLower, lesser, Reaches, least_over, EndsSo, LowIs, IsFibre}
use Rattle.fibre_bound.specs.Walks.Reaches.{Clears, Lowers, Halves}

-- where a walk stands
abbrev pub trail : Scanned → Option ℤ → List Cell → ℕ → Trail
trail best least cells spent = record { packing = best.packing; up = best.up; least = least; cells = spans_of cells; spent = spent }

-- ---- the cell in hand
-- it is on top of the cells that are left, its low is that of the walk's question, and it isn't cleared
pub record IsInHand (q : Question) (units : ℕ) (best : Scanned) (least : Option ℤ) (hand : Cell) (rest : List Cell) (spent : ℕ) : Type 0 where
  pub reaches : Reaches q units (trail best least (hand ∷ rest) spent)
  pub low : hand.low ≡ low_of q (span_of hand)
  pub not_clear : int_le (best.up -ℤ q.slack) hand.low ≡ false

pub opened : (q : Question) (units : ℕ) (best : Scanned) (least : Option ℤ) (hand : Cell) (rest : List Cell) (spent : ℕ) → IsInHand q units best least hand rest spent →
    IsOpen q (trail best least (hand ∷ rest) spent) (span_of hand)
opened q units best least hand rest spent h = rw (← h.low) (under (best.up -ℤ q.slack) hand.low h.not_clear)
  where
    under : (a b : ℤ) → int_le a b ≡ false → b <ℤ a
    under a b e = grind (arith, e)

-- ---- what is known of the state in the middle
some_of : {A : Type 0} (P : A → Type 0) (r : Option A) (a : A) → r ≡ Some a → IfSome r P → P a
some_of P r a e h = subst (λ o. IfSome o P) e h

none_of : {A : Type 0} (r : Option A) (P : Type 0) → r ≡ None → IfNone r P → P
none_of r P e h = subst (λ o. IfNone o P) e h

-- a state in the middle that is lower, where there is one
pub record IsMiddle (s : Surface) (x : Box) (best : Scanned) (at : ℕ) (found : Option Scanned) : Type 0 where
  pub some : IfSome found (λ state. 1 ≤ at)
  pub state : IfSome found (λ state. state ≡ state_at s x at)
  pub lower : IfSome found (λ state. state.up <ℤ best.up)
  pub small : IfSome found (λ state. unsigned_abs state.up < 2 ^ 49)
  pub none : IfNone found ((at ≡ 0) ⊎ (best.up ≤ℤ s.up x at))

pub record IsLowerState (s : Surface) (x : Box) (best : Scanned) (at : ℕ) (state : Scanned) : Type 0 where
  pub some : 1 ≤ at
  pub packing : state.packing ≡ at
  pub up : state.up ≡ s.up x at
  pub lower : state.up <ℤ best.up
  pub small : unsigned_abs state.up < 2 ^ 49

pub lower_state : (s : Surface) (x : Box) (best : Scanned) (at : ℕ) (lower : Option Scanned) (state : Scanned) → IsMiddle s x best at lower → lower ≡ Some state →
    IsLowerState s x best at state
lower_state s x best at lower state h e =
    let is = some_of (λ (f : Scanned). f ≡ state_at s x at) lower state e h.state in
    record {
      some = some_of (λ (f : Scanned). 1 ≤ at) lower state e h.some;
      packing = ap (λ (f : Scanned). f.packing) is;
      up = ap (λ (f : Scanned). f.up) is;
      lower = some_of (λ (f : Scanned). f.up <ℤ best.up) lower state e h.lower;
      small = some_of (λ (f : Scanned). unsigned_abs f.up < 2 ^ 49) lower state e h.small;
    }

pub no_lower : (s : Surface) (x : Box) (best : Scanned) (at : ℕ) (lower : Option Scanned) → IsMiddle s x best at lower → lower ≡ None → (at ≡ 0) ⊎ (best.up ≤ℤ s.up x at)
no_lower s x best at lower h e = none_of lower ((at ≡ 0) ⊎ (best.up ≤ℤ s.up x at)) e h.none

-- a cell that isn't stuck wants a unit
pub wanted : (s : Surface) (x : Box) (best : Scanned) (at width : ℕ) (lower : Option Scanned) → IsMiddle s x best at lower → (lower ≡ None → 2 ≤ width) →
    ((1 ≤ at) × (s.up x at <ℤ best.up)) ⊎ (2 ≤ width)
wanted s x best at width None h free = inr (free refl)
wanted s x best at width (Some state) h free =
    let l = lower_state s x best at (Some state) state h refl in inl (l.some, subst (λ z. z <ℤ best.up) l.up l.lower)

-- ---- steps
pub clears : (q : Question) (units : ℕ) (best : Scanned) (least : Option ℤ) (hand : Cell) (rest : List Cell) (spent : ℕ) →
    Reaches q units (trail best least (hand ∷ rest) spent) → hand.low ≡ low_of q (span_of hand) → int_le (best.up -ℤ q.slack) hand.low ≡ true →
    Reaches q units (trail best (Some (lesser least hand.low)) rest spent)
clears q units best least hand rest spent h low clear =
    let t = trail best least (hand ∷ rest) spent in
    subst (λ z. Reaches q units (trail best (Some (lesser least z)) rest spent)) (sym low)
    (Clears t (span_of hand) (spans_of rest) h refl (subst (λ z. (best.up -ℤ q.slack) ≤ℤ z) low (over (best.up -ℤ q.slack) hand.low clear)))
  where
    over : (a b : ℤ) → int_le a b ≡ true → a ≤ℤ b
    over a b e = grind (arith, e)

-- the state in the middle takes the place of the one of least upper energy
pub lowers : (q : Question) (units : ℕ) (best state : Scanned) (least : Option ℤ) (hand : Cell) (rest : List Cell) (spent next : ℕ) → IsInHand q units best least hand rest spent →
    1 ≤ middle (span_of hand) → state.packing ≡ middle (span_of hand) → state.up ≡ q.up (middle (span_of hand)) → state.up <ℤ best.up → spent < units → next ≡ spent + 1 →
    Reaches q units (trail state least (hand ∷ rest) next)
lowers q units best state least hand rest spent next h some at up lower room more =
    let t = trail best least (hand ∷ rest) spent in
    let reached = Lowers t (span_of hand) (spans_of rest) h.reaches refl (opened q units best least hand rest spent h) (some, rw (← up) lower) room in
    rw (at, up, more) reached

-- the halves take the place of the cell
pub halves : (q : Question) (units : ℕ) (best : Scanned) (least : Option ℤ) (hand lower upper : Cell) (rest : List Cell) (spent next : ℕ) → IsInHand q units best least hand rest spent →
    IsNoLower q (trail best least (hand ∷ rest) spent) (span_of hand) → 2 ≤ hand.to.packing - hand.from.packing →
    span_of lower ≡ span hand.from.packing (middle (span_of hand)) → span_of upper ≡ span (middle (span_of hand)) hand.to.packing → spent < units → next ≡ spent + 1 →
    Reaches q units (trail best least (lower ∷ upper ∷ rest) next)
halves q units best least hand lower upper rest spent next h none wide first second room more =
    let t = trail best least (hand ∷ rest) spent in
    let reached = Halves t (span_of hand) (spans_of rest) h.reaches refl (opened q units best least hand rest spent h) none wide room in
    rw (more, first, second) reached

-- ---- the least low of the cells that are left
pub least_some : (least : Option ℤ) (hand : Cell) (rest : List Cell) → (z : ℤ) × (least_of least (hand ∷ rest) ≡ Some z)
unfolding least_of
least_some least hand [] = (lesser least hand.low, refl)
least_some least hand (c ∷ cs) = least_some (Some (lesser least hand.low)) c cs

pub least_same : (s : Surface) (x : Box) (are_logs : ℕ → PackingLogs → Type 0) (q : Question) (least : Option ℤ) (cells : List Cell) → q.low ≡ s.low x → AreCells s x are_logs cells →
    least_over q least (spans_of cells) ≡ least_of least cells
unfolding least_of least_over AreCells
least_same s x are_logs q least [] e h = refl
least_same s x are_logs q least (c ∷ cs) e h =
    let low : low_of q (span_of c) ≡ c.low = ap (λ f. f c.from.packing c.to.packing) e ∙ sym h.0.low in
    subst (λ z. least_over q (Some (lesser least z)) (spans_of cs) ≡ least_of (Some (lesser least c.low)) cs) (sym low) (least_same s x are_logs q (Some (lesser least c.low)) cs e h.1)

-- ---- ends
-- a walk that stops at a cell ends so, with the least low of the cells that are left
pub stops : (s : Surface) (x : Box) (are_logs : ℕ → PackingLogs → Type 0) (q : Question) (units : ℕ) (best : Scanned) (least found : Option ℤ) (hand : Cell) (rest : List Cell) (spent : ℕ) (f : Fibre) →
    q.low ≡ s.low x → AreCells s x are_logs (hand ∷ rest) → Reaches q units (trail best least (hand ∷ rest) spent) → found ≡ least_of least (hand ∷ rest) →
    f.packing ≡ best.packing → f.up ≡ best.up → ((z : ℤ) → found ≡ Some z → f.low ≡ z) → EndsSo q units (trail best least (hand ∷ rest) spent) f.end →
    ((z : ℤ) → least_over q least (spans_of (hand ∷ rest)) ≡ Some z → LowIs q (trail best least (hand ∷ rest) spent) f.end z) →
    IsFibre q units spent f
stops s x are_logs q units best least found hand rest spent f e cells reaches is packing up low ends stopped =
    let some = least_some least hand rest in
    let same : f.low ≡ some.0 = low some.0 (is ∙ some.1) in
    record {
      trail = trail best least (hand ∷ rest) spent;
      reaches = reaches;
      spent_is = refl;
      packing = packing;
      up = up;
      ends = ends;
      low = stopped f.low (least_same s x are_logs q least (hand ∷ rest) e cells ∙ some.1 ∙ ap Some (sym same));
    }

-- ---- cells
pub cells_more : (s : Surface) (x : Box) (are_logs : ℕ → PackingLogs → Type 0) (c : Cell) (cs : List Cell) → IsCell s x are_logs c → AreCells s x are_logs cs → AreCells s x are_logs (c ∷ cs)
unfolding AreCells
cells_more s x are_logs c cs h k = (h, k)

pub cells_none : (s : Surface) (x : Box) (are_logs : ℕ → PackingLogs → Type 0) → AreCells s x are_logs []
unfolding AreCells
cells_none s x are_logs = tt

pub cells_top : (s : Surface) (x : Box) (are_logs : ℕ → PackingLogs → Type 0) (c : Cell) (cs : List Cell) → AreCells s x are_logs (c ∷ cs) → IsCell s x are_logs c × AreCells s x are_logs cs
unfolding AreCells
cells_top s x are_logs c cs h = h
