-- A search so far: what is written, with any visits that finish the cells on the stack, is a tree.
use Rattle.std.proofs.Common.{◌≡◌, ℕ, zero, suc, ◌+◌, ◌^◌, ◌⊎◌, List, [], ◌∷◌, ◌++◌, map, ℤ, pos, neg_ℤ, unsigned_abs, ◌≤◌, ◌≤ℤ◌, ◌<ℤ◌, IsFalse, IsTrue, ◌==◌, slice_set, if◌then◌else◌, Bool, true, false, inl, inr, Option, Some, None, refl, sym, subst, ap, ◌∙◌, append_assoc, arith}
use Rattle.std.proofs.lemmas.Int.{ints}
use Rattle.std.proofs.lemmas.List.{append-nil, map-append}
use Rattle.case_types.specs.declared.cells.Cell.{Cell}
use Rattle.case_types.specs.Grid.Cells.{Region, region_of, root_region, lower_half, upper_half, misses, packing_edge, cut, Mark, Misses, Plain, Sloped, Tree, Leaf, Node, Step, Ends, Halves, Visit, visits, letter_of, letters_of, HasVisit, HasLow}
use Rattle.case_types.specs.Grid.Visits.{EachVisit, edges_in}
use Rattle.case_types.proofs.Exports.{total, has-left, has-right, each-append, edges-append}
use Rattle.energy_surface.proofs.Exports.{each_over_less}
use Rattle.energy_surface.specs.declared.found.Found.{Found}
use Rattle.energy_surface.specs.declared.found.Found.TheVariants.{Spent, Grain}
use Rattle.box_search.specs.Found.{units_of}
use Rattle.box_search.specs.declared.leaves.Leaf.{Leaf as LeafLow}
use Rattle.box_search.specs.Leaves.{Clears}
use Rattle.box_search.specs.Written.{IsLeastFrom, Closes, Searches}
use Rattle.energy_surface.specs.Surfaces.{Surface, Under, low_by}
use Rattle.energy_surface.specs.Searches.{HaveCauses, HasStepCause, IsStepOver, IsStepAt, IsLeastLow, HasLeastLow, HasEndCause, WantsUnit, IsGrainOf, left_mark, left_visit, closing, low_of}
use Rattle.log_laws.proofs.Exports.{abs_within}
use Rattle.box_search.proofs.Finishing.{Finishes, finish_leaf, finish_halved, finish_all}

-- ---- leaves
abbrev pub leaf_visit : Mark → Region → Visit
leaf_visit mark r = record { region = r; step = Ends mark }

-- a low of a leaf is over each lower number
pub leaf_over : (s : Surface) (lam : List ℤ) (mark : Mark) (r : Region) (own less : ℤ) → low_by s lam r mark ≡ Some own → less ≤ℤ own → IsStepOver s lam less r (Ends mark)
leaf_over s lam Misses r own less e h = absurd (let z : None ≡ Some own = e in cc)
leaf_over s lam Plain r own less e h = subst (HasLow less) (sym e) h
leaf_over s lam Sloped r own less e h = subst (HasLow less) (sym e) h

-- ---- the lesser of two numbers
-- no low of a cell is above this
abbrev pub highest : ℤ
highest = pos (2 ^ 107)

abbrev pub IsLesser : ℤ → ℤ → ℤ → Type 0
IsLesser a b low = (low ≤ℤ a) × (low ≤ℤ b) × ((z : ℤ) → z ≤ℤ a → z ≤ℤ b → z ≤ℤ low)

pub lesser_is : (a b low : ℤ) → IsLesser a b low → (low ≡ a) ⊎ (low ≡ b)
lesser_is a b low h =
    elim (total a b) [
      | inl l ↦ let k = h.2 a (omega (arith, ints)) l in inl (omega (arith, ints, k, h.0))
      | inr g ↦ let k = h.2 b g (omega (arith, ints)) in inr (omega (arith, ints, k, h.1))
    ]

pub lesser_small : (a b low : ℤ) → IsLesser a b low → neg_ℤ highest ≤ℤ a → unsigned_abs b ≤ 2 ^ 107 → unsigned_abs low ≤ 2 ^ 107
lesser_small a b low h least small =
    let above = h.2 (neg_ℤ highest) least (omega (arith, ints, small)) in abs_within low (2 ^ 107) above (omega (arith, ints, h.1, small))

-- a walk of which no cell has a low
abbrev pub HasNoLow : ℕ → Region → Step → Type 0
HasNoLow n r (Ends Misses) = IsTrue (misses n r)
HasNoLow n r (Ends Plain) = ⊥
HasNoLow n r (Ends Sloped) = ⊥
HasNoLow n r (Halves edge) = Unit {0}

-- the whole domain holds compositions, and so does the lower half of a cell that does
pub root_meets : (n : ℕ) → n ≤ 4 → IsFalse (misses n (root_region n))
root_meets zero h = refl
root_meets (suc zero) h = refl
root_meets (suc (suc zero)) h = refl
root_meets (suc (suc (suc zero))) h = refl
root_meets (suc (suc (suc (suc zero)))) h = refl
root_meets (suc (suc (suc (suc (suc n))))) h = absurd (omega (arith, h))

lower_meets : (n : ℕ) (b : Bool) (r : Region) (y : ℕ) (hi : List ℕ) → IsFalse (misses n r) →
    IsFalse (misses n (if b then record r { yhi = y } else record r { hi = hi }))
lower_meets n true r y hi h = h
lower_meets n false r y hi h = h

some_leaf : (n : ℕ) (t : Tree) (r : Region) (vs : List Visit) → IsFalse (misses n r) → EachVisit (λ v. HasNoLow n v.region v.step) (visits t r ++ vs) → ⊥
unfolding visits
some_leaf n (Leaf Misses) r vs m h = let t : IsTrue (misses n r) = h.0 in cc (m, t)
some_leaf n (Leaf Plain) r vs m h = h.0
some_leaf n (Leaf Sloped) r vs m h = h.0
some_leaf n (Node edge lower upper) r vs m h =
    some_leaf n lower (lower_half edge r) (visits upper (upper_half edge r) ++ vs) (lower_meets n (edge == packing_edge) r (cut r edge) (slice_set r.hi edge (cut r edge)) m) (rw (← append_assoc (visits lower (lower_half edge r)) (visits upper (upper_half edge r)) vs) h.1)

-- a leaf has the low, or there is no leaf
abbrev pub IsReached : Surface → List ℤ → ℤ → List Visit → Type 0
IsReached s lam low before =
    HasVisit (λ v. IsStepAt s lam low v.region v.step) before ⊎ ((low ≡ highest) × EachVisit (λ v. HasNoLow s.count v.region v.step) before)

pub record SoFar (u : Under) (old now : List ℕ) (units : ℕ) (low : ℤ) (stack : List Region) : Type 0 where
  pub before : List Visit
  pub written : now ≡ old ++ letters_of before
  pub caused : HaveCauses u before
  pub grows : (rest : List Visit) → Finishes stack rest → (t : Tree) × (visits t (root_region u.surface.count) ≡ before ++ rest)
  pub units_are : units ≡ edges_in (letters_of before)
  pub over : EachVisit (λ v. IsStepOver u.surface u.plane low v.region v.step) before
  pub reached : IsReached u.surface u.plane low before

start_tree : (r : Region) (rest : List Visit) → Finishes (r ∷ []) rest → (t : Tree) × (visits t r ≡ [] ++ rest)
unfolding Finishes
start_tree r rest f = (f.0, sym (f.2 ∙ ap (λ vs. visits f.0 r ++ vs) f.3 ∙ append-nil (visits f.0 r)))

pub begins : (u : Under) (old : List ℕ) (units : ℕ) (stack : List Region) → stack ≡ root_region u.surface.count ∷ [] → units ≡ 0 →
    SoFar u old old units highest stack
begins u old units stack e none = record {
  before = [];
  written = sym (append-nil old);
  caused = tt;
  grows = λ rest f. start_tree (root_region u.surface.count) rest (rw e at f);
  units_are = none;
  over = tt;
  reached = inr (refl, tt);
}

-- one more letter
pub written_more : (old now next : List ℕ) (before : List Visit) (v : Visit) → now ≡ old ++ letters_of before → next ≡ now ++ letter_of v.step ∷ [] →
    next ≡ old ++ letters_of (before ++ v ∷ [])
written_more old now next before v e f = rw (map-append, ← append_assoc old (letters_of before) (letter_of v.step ∷ []), ← e) f

-- the least low with one leaf more
reached_more : (s : Surface) (lam : List ℤ) (low own next : ℤ) (before : List Visit) (mark : Mark) (r : Region) → low_by s lam r mark ≡ Some own → IsLesser low own next → own ≤ℤ highest →
    IsReached s lam low before →
    HasVisit (λ v. IsStepAt s lam next v.region v.step) (before ++ leaf_visit mark r ∷ [])
reached_more s lam low own next before mark r at lesser small old =
    elim (lesser_is low own next lesser) [
      | inr here ↦ now here
      | inl same ↦ elim old [
        | inl there ↦ has-left (λ v. IsStepAt s lam next v.region v.step) before (leaf_visit mark r ∷ []) (rw same there)
        | inr none ↦ now (omega (arith, ints, same, none.0, small, lesser.1))
      ]
    ]
  where
    now : next ≡ own → HasVisit (λ v. IsStepAt s lam next v.region v.step) (before ++ leaf_visit mark r ∷ [])
    now e = has-right (λ v. IsStepAt s lam next v.region v.step) before (leaf_visit mark r ∷ []) (inl (rw e at))

-- the letter of a leaf is none of an edge
leaf_edges : (mark : Mark) (rest : List ℕ) → edges_in (letter_of (Ends mark) ∷ rest) ≡ edges_in rest
leaf_edges Misses rest = refl
leaf_edges Plain rest = refl
leaf_edges Sloped rest = refl

-- a cell is cleared
pub clears : (u : Under) (low next : ℤ) (old now new : List ℕ) (units : ℕ) (r : Region) (stack below : List Region) (leaf : LeafLow) →
    stack ≡ r ∷ below → new ≡ now ++ leaf.letter ∷ [] → Clears u r leaf → IsLesser low leaf.low next → leaf.low ≤ℤ highest →
    SoFar u old now units low stack → SoFar u old new units next below
clears u low next old now new units r stack below leaf e f clear lesser small h =
    let here = leaf_visit clear.mark r in
    record {
      before = h.before ++ here ∷ [];
      written = written_more old now new h.before here h.written (rw clear.by.letter at f);
      caused = each-append (λ v. HasStepCause u v.region v.step) h.before (here ∷ []) h.caused (clear.cause, tt);
      grows = λ rest k. rw append_assoc (h.grows (here ∷ rest) (rw e (finish_leaf clear.mark r below rest k)));
      units_are = let z = edges-append (letters_of h.before) (letter_of (Ends clear.mark) ∷ []) in rw map-append (omega (arith, z, leaf_edges clear.mark [], h.units_are));
      over = each-append (λ v. IsStepOver u.surface u.plane next v.region v.step) h.before (here ∷ []) (each_over_less u.surface u.plane low next lesser.0 h.before h.over)
          (leaf_over u.surface u.plane clear.mark r leaf.low next clear.by.low lesser.1, tt);
      reached = inl (reached_more u.surface u.plane low leaf.low next h.before clear.mark r clear.by.low lesser small h.reached);
    }

reached_halved : (s : Surface) (lam : List ℤ) (low : ℤ) (before : List Visit) (u : Visit) → HasNoLow s.count u.region u.step →
    IsReached s lam low before →
    IsReached s lam low (before ++ u ∷ [])
reached_halved s lam low before u h (inl there) = inl (has-left (λ v. IsStepAt s lam low v.region v.step) before (u ∷ []) there)
reached_halved s lam low before u h (inr none) = inr (none.0, each-append (λ v. HasNoLow s.count v.region v.step) before (u ∷ []) none.1 (h, tt))

-- a cell holds no composition
pub passes : (u : Under) (low : ℤ) (old now new : List ℕ) (units : ℕ) (r : Region) (stack below : List Region) →
    stack ≡ r ∷ below → new ≡ now ++ 109 ∷ [] → IsTrue (misses u.surface.count r) →
    SoFar u old now units low stack → SoFar u old new units low below
passes u low old now new units r stack below e f miss h = record {
  before = h.before ++ leaf_visit Misses r ∷ [];
  written = written_more old now new h.before (leaf_visit Misses r) h.written f;
  caused = each-append (λ v. HasStepCause u v.region v.step) h.before (leaf_visit Misses r ∷ []) h.caused (miss, tt);
  grows = λ rest k. rw append_assoc (h.grows (leaf_visit Misses r ∷ rest) (rw e (finish_leaf Misses r below rest k)));
  units_are = let z = edges-append (letters_of h.before) (109 ∷ []) in rw map-append (omega (arith, z, h.units_are));
  over = each-append (λ v. IsStepOver u.surface u.plane low v.region v.step) h.before (leaf_visit Misses r ∷ []) h.over (miss, tt);
  reached = reached_halved u.surface u.plane low h.before (leaf_visit Misses r) miss h.reached;
}

-- the letter of a halving is one of an edge
one_edge : (edge : ℕ) → edge ≤ 3 → edges_in (letter_of (Halves edge) ∷ []) ≡ 1
one_edge zero h = refl
one_edge (suc zero) h = refl
one_edge (suc (suc zero)) h = refl
one_edge (suc (suc (suc zero))) h = refl
one_edge (suc (suc (suc (suc edge)))) h = absurd (omega (arith, h))

-- a cell is halved along an edge
pub halves : (u : Under) (low : ℤ) (old now new : List ℕ) (units more edge : ℕ) (r : Region) (stack below next : List Region) → edge ≤ 3 →
    stack ≡ r ∷ below → next ≡ lower_half edge r ∷ upper_half edge r ∷ below → new ≡ now ++ letter_of (Halves edge) ∷ [] → HasStepCause u r (Halves edge) → more ≡ units + 1 →
    SoFar u old now units low stack → SoFar u old new more low next
halves u low old now new units more edge r stack below next inside e e2 f cause one h =
    let here : Visit = record { region = r; step = Halves edge } in
    record {
      before = h.before ++ here ∷ [];
      written = written_more old now new h.before here h.written f;
      caused = each-append (λ v. HasStepCause u v.region v.step) h.before (here ∷ []) h.caused (cause, tt);
      grows = λ rest k. rw append_assoc (h.grows (here ∷ rest) (rw e (finish_halved edge r below rest (rw e2 at k))));
      units_are = let z = edges-append (letters_of h.before) (letter_of (Halves edge) ∷ []) in rw map-append (omega (arith, z, one_edge edge inside, h.units_are, one));
      over = each-append (λ v. IsStepOver u.surface u.plane low v.region v.step) h.before (here ∷ []) h.over (tt, tt);
      reached = reached_halved u.surface u.plane low h.before here tt h.reached;
    }

-- ---- the end
-- the low of a search that leaves cells, the least of which is below every low
pub low_left : (s : Surface) (lam : List ℤ) (low least : ℤ) (left : List Region) → IsLeastFrom s lam low least (map (left_visit s lam) left) → least <ℤ highest →
    (before : List Visit) → EachVisit (λ v. IsStepOver s lam low v.region v.step) before → IsReached s lam low before →
    IsLeastLow s lam least (before ++ map (left_visit s lam) left)
low_left s lam low least left h small before over reached = record {
  over = each-append (λ v. IsStepOver s lam least v.region v.step) before (map (left_visit s lam) left) (each_over_less s lam low least h.lower before over) h.over;
  reached = elim h.reached [
    | inr there ↦ has-right P before (map (left_visit s lam) left) there
    | inl same ↦ elim reached [
      | inl there ↦ has-left P before (map (left_visit s lam) left) (rw same there)
      | inr none ↦ absurd (omega (arith, ints, same, none.0, small))
    ]
  ];
}
  where
    P : Visit → Type 0
    P = λ v. IsStepAt s lam least v.region v.step

-- the low of a search that clears every cell
pub low_clear : (s : Surface) (lam : List ℤ) (low : ℤ) (t : Tree) (r : Region) (before : List Visit) → IsFalse (misses s.count r) → visits t r ≡ before ++ [] →
    EachVisit (λ v. IsStepOver s lam low v.region v.step) before → IsReached s lam low before → IsLeastLow s lam low (before ++ [])
low_clear s lam low t r before m e over (inl there) = rw (append-nil before) record { over = over; reached = there }
low_clear s lam low t r before m e over (inr none) =
    absurd (some_leaf s.count t r [] m (rw (append-nil (visits t r), e, append-nil before) none.1))

left-edges : (s : Surface) (lam : List ℤ) (left : List Region) → edges_in (letters_of (map (left_visit s lam) left)) ≡ 0
left-edges s lam [] = refl
left-edges s lam (r ∷ below) = leaf_edges (left_mark s lam r) (letters_of (map (left_visit s lam) below)) ∙ left-edges s lam below

closing-edges : (s : Surface) (lam : List ℤ) (low : Option ℤ) (left : List Region) → edges_in (letters_of (closing s lam low left)) ≡ 0
closing-edges s lam None left = refl
closing-edges s lam (Some low) left = left-edges s lam left

-- the search ends with some cells left, which get leaf letters or not
pub ended : (u : Under) (low : ℤ) (old now new : List ℕ) (units more : ℕ) (stack left : List Region) (found : Found) →
    stack ≡ left → HasEndCause u found left → new ≡ now ++ letters_of (closing u.surface u.plane (low_of found) left) → more ≡ units + units_of found →
    ((t : Tree) (before : List Visit) → visits t (root_region u.surface.count) ≡ before ++ map (left_visit u.surface u.plane) left →
    EachVisit (λ v. IsStepOver u.surface u.plane low v.region v.step) before → IsReached u.surface u.plane low before →
    HasLeastLow u.surface u.plane (low_of found) (before ++ map (left_visit u.surface u.plane) left)) →
    SoFar u old now units low stack → Searches u old new more found
ended u low old now new units more stack left found e cause f g low_of_walk h =
    let k : SoFar u old now units low left = rw e at h in
    let t = k.grows (map (left_visit u.surface u.plane) left) (finish_all u.surface u.plane left) in
    let closings = closing u.surface u.plane (low_of found) left in
    record {
      own = letters_of (k.before ++ closings);
      written = rw (map-append, ← append_assoc old (letters_of k.before) (letters_of closings), ← k.written) f;
      searched = record {
        tree = t.0;
        before = k.before;
        left = left;
        preorder = t.1;
        caused = k.caused;
        ends = cause;
        written = refl;
        low = rw t.1 (low_of_walk t.0 k.before t.1 k.over k.reached);
      };
      counted =
          let z = edges-append (letters_of k.before) (letters_of closings) in
          let none = closing-edges u.surface u.plane (low_of found) left in
          rw map-append (omega (arith, z, none, k.units_are, g));
    }

-- the search stops at the cell in hand, for want of a unit or since it is of one unit
pub stops_spent : (u : Under) (low least : ℤ) (old now new : List ℕ) (units : ℕ) (hand : Region) (stack rest : List Region) →
    stack ≡ hand ∷ rest → WantsUnit u hand → Closes u.surface u.plane low (hand ∷ rest) now new least → least <ℤ highest →
    SoFar u old now units low stack → Searches u old new units (Spent least)
stops_spent u low least old now new units hand stack rest e cause closes small h =
    ended u low old now new units units stack (hand ∷ rest) (Spent least) e cause closes.written (omega arith)
    (λ t before k over reached. low_left u.surface u.plane low least (hand ∷ rest) closes.lows small before over reached) h

pub stops_grain : (u : Under) (low least : ℤ) (old now new : List ℕ) (units : ℕ) (cell : Cell) (stack rest : List Region) →
    stack ≡ region_of cell ∷ rest → IsGrainOf u (region_of cell) (region_of cell) → Closes u.surface u.plane low (region_of cell ∷ rest) now new least → least <ℤ highest →
    SoFar u old now units low stack → Searches u old new units (Grain least cell)
stops_grain u low least old now new units cell stack rest e cause closes small h =
    ended u low old now new units units stack (region_of cell ∷ rest) (Grain least cell) e cause closes.written (omega arith)
    (λ t before k over reached. low_left u.surface u.plane low least (region_of cell ∷ rest) closes.lows small before over reached) h
