-- The potentials of the last plane are small: no pure column lies below it.
use Rattle.std.proofs.Common.{◌≡◌, ℕ, zero, suc, ◌+◌, ◌*◌, ◌^◌, ◌<◌, ◌≤◌, inl, inr, add-one, min, ltb-true, Bool, true, false, List, [], ◌∷◌, ◌++◌, length, take, Some, ℤ, pos, ◌*ℤ◌, unsigned_abs, refl, ap, subst, ◌∙◌, arith}
use Rattle.std.specs.Prelude.{nat_lt, slice_get, slice_set}
use Rattle.std.specs.List.{All}
use Rattle.std.proofs.lemmas.Int.{ints}
use Rattle.std.proofs.lemmas.List.{length-take, length-set, get_or-take}
use Rattle.case_types.specs.declared.answers.Work.{Work}
use Rattle.case_types.specs.declared.cases.Case.{Case}
use Rattle.case_types.specs.declared.pivots.Pivot.{Pivot}
use Rattle.case_types.specs.declared.planes.Plane.{Plane}
use Rattle.case_types.specs.declared.rounds.Column.{Column}
use Rattle.case_types.specs.declared.rounds.Round.{Round}
use Rattle.case_types.specs.Arithmetic.Bounds.{potential}
use Rattle.energy_surface.specs.declared.found.Found.{Found}
use Rattle.energy_surface.specs.Columns.{IsColumn}
use Rattle.energy_surface.specs.Lawful.{IsListOfWork, IsPureColumn, beginning}
use Rattle.energy_surface.specs.Program.Bases.{no_column, column_at, system, costs_of, start_places, AreColumns, IsBasis}
use Rattle.energy_surface.specs.Program.Pivots.{ArePivots, IsPureOptimal}
use Rattle.energy_surface.specs.Program.Planes.{plane_of, plane_entry, live_entry}
use Rattle.energy_surface.specs.Program.Solutions.{size, slope}
use Rattle.energy_surface.specs.Rounds.{Start, IsRound, AreRefuted, own_of, after}
use Rattle.energy_surface.specs.Surfaces.{Surface}
use Rattle.answer_sizes.proofs.Rounding.{floor_small}
use Rattle.exact_lp.proofs.Exports.{spans_above, columns_kept, pivots_keep, basis_kept, start_is_basis, start_is_optimal, slope_small}

-- ---- an entry of a plane
entry_small : (c : Case) (cols : List Column) (at : List ℕ) → AreColumns c.n cols → IsBasis c cols at → IsPureOptimal c.n cols at → (i : ℕ) → i < c.n →
    unsigned_abs (plane_entry c.n cols at i) ≤ 2 ^ 70
entry_small c cols at good basis optimal i h =
    let l = slope_small c cols at good basis optimal i h in
    floor_small (slope c.n (system cols at) (costs_of cols at) i *ℤ pos (2 ^ 30)) (size c.n (system cols at)) (2 ^ 70) (spans_above c cols at basis)
    (scaled (slope c.n (system cols at) (costs_of cols at) i) (size c.n (system cols at)) l)
  where
    scaled : (l : ℤ) (s : ℕ) → unsigned_abs l ≤ 2 ^ 40 * s → unsigned_abs (l *ℤ pos (2 ^ 30)) ≤ 2 ^ 70 * s
    scaled l s h = omega (arith, ints, h)

live_is : (n : ℕ) (cols : List Column) (at : List ℕ) (i : ℕ) (b : Bool) → nat_lt i n ≡ b → (i < n → unsigned_abs (plane_entry n cols at i) ≤ 2 ^ 70) →
    unsigned_abs (live_entry n cols at i) ≤ 2 ^ 70
live_is n cols at i true e h = rw e (h (ltb-true i n e))
live_is n cols at i false e h = rw e (omega arith)

potential_small : (c : Case) (cols : List Column) (at : List ℕ) → AreColumns c.n cols → IsBasis c cols at → IsPureOptimal c.n cols at → (i : ℕ) →
    unsigned_abs (potential (plane_of c.n cols at) i) ≤ 2 ^ 70
potential_small c cols at good basis optimal i = at_place i
  where
    live : (i : ℕ) → unsigned_abs (live_entry c.n cols at i) ≤ 2 ^ 70
    live i = live_is c.n cols at i (nat_lt i c.n) refl (entry_small c cols at good basis optimal i)

    at_place : (i : ℕ) → unsigned_abs (potential (plane_of c.n cols at) i) ≤ 2 ^ 70
    at_place zero = live 0
    at_place (suc zero) = live 1
    at_place (suc (suc zero)) = live 2
    at_place (suc (suc (suc zero))) = live 3
    at_place (suc (suc (suc (suc i)))) = omega arith

-- ---- the columns and the basis of a round
take_next : (xs : List Column) (k : ℕ) (x : Column) → slice_get xs k ≡ Some x → take (suc k) xs ≡ take k xs ++ x ∷ []
take_next [] k x e = absurd (cc e)
take_next (y ∷ xs) zero x e = let same : y ≡ x = cc in rw same refl
take_next (y ∷ xs) (suc k) x e = ap (λ (l : List Column). y ∷ l) (take_next xs k x e)

take_more : (xs : List Column) (k : ℕ) (x : Column) → slice_get xs k ≡ Some x → take (k + 1) xs ≡ take k xs ++ x ∷ []
take_more xs k x e = rw (add-one k) (take_next xs k x e)

pivots_long : (c : Case) (kept : List Column) (at last : List ℕ) (vs : List Pivot) → ArePivots c kept at vs last → length at ≡ 4 → length last ≡ 4
unfolding ArePivots
pivots_long c kept at last [] e long = rw (← e) long
pivots_long c kept at last (v ∷ vs) p long = pivots_long c kept (slice_set at v.leave v.enter) last vs p.2 (length-set at v.leave v.enter ∙ long)

-- a round that is refuted keeps one column
pub columns_counted : (s : Surface) (c : Case) (tol : ℕ) (w : Work) (start : Start) (rs : List Round) (last : Start) → AreRefuted s c tol w start rs last →
    last.columns ≡ start.columns + length rs
unfolding AreRefuted
columns_counted s c tol w start [] last e = rw e (omega arith)
columns_counted s c tol w start (r ∷ rs) last h =
    let n = columns_counted s c tol w (after r h.0) rs last h.4 in
    let at = h.2.columns in
    omega (arith, n, at)

record Stands (c : Case) (cols : List Column) (start : Start) : Type 0 where
  enough : c.n ≤ start.columns
  long : length start.basis ≡ 4
  basis : IsBasis c (take start.columns cols) start.basis

round_stands : (s : Surface) (c : Case) (tol : ℕ) (w : Work) (start : Start) (r : Round) (basis : List ℕ) (found : Found) →
    IsRound s c tol start (own_of w start r) r basis found → Stands c w.columns.items start → IsBasis c (take r.columns w.columns.items) basis
round_stands s c tol w start r basis found h stands =
    pivots_keep c (take r.columns w.columns.items) start.basis basis (own_of w start r).pivots h.pivots stands.long (rw h.columns stands.basis)

rounds_stand : (s : Surface) (c : Case) (tol : ℕ) (w : Work) (start : Start) (rs : List Round) (last : Start) → AreRefuted s c tol w start rs last →
    Stands c w.columns.items start → Stands c w.columns.items last
unfolding AreRefuted
rounds_stand s c tol w start [] last e stands = subst (Stands c w.columns.items) e stands
rounds_stand s c tol w start (r ∷ rs) last h stands =
    let round = h.2 in
    let at = round.columns in
    rounds_stand s c tol w (after r h.0) rs last h.4
    (record {
      enough = omega (arith, at, stands.enough);
      long = pivots_long c (take r.columns w.columns.items) start.basis h.0 (own_of w start r).pivots round.pivots stands.long;
      basis = rw (take_more w.columns.items r.columns h.1 h.3)
          (basis_kept c (take r.columns w.columns.items) h.1 h.0 (round_stands s c tol w start r h.0 _ round stands));
    })

-- ---- the last round
-- the columns before a round are columns of a linear program
columns_of_round : (s : Surface) (c : Case) (cols : List Column) (m : ℕ) → s.count ≡ c.n → c.n ≤ m → m < 2 ^ 32 → c.n ≤ length cols →
    All (λ (col : Column). IsColumn s col) cols → ((k : ℕ) → k < c.n → IsPureColumn s k (column_at cols k)) → AreColumns c.n (take m cols)
columns_of_round s c cols m count more few enough good pure =
    columns_kept s c.n (take m cols) count c.few (rw (length-take m cols) (least_below m (length cols) few)) (rw (length-take m cols) (least_above m (length cols) more enough))
    (taken m cols good) (λ k h. rw (get_or-take m cols k no_column (omega (arith, h, more))) (pure k h).alone)
  where
    least_below : (a b : ℕ) → a < 2 ^ 32 → min a b < 2 ^ 32
    least_below a b h = omega (arith, h)

    least_above : (a b : ℕ) → c.n ≤ a → c.n ≤ b → c.n ≤ min a b
    least_above a b h k = omega (arith, h, k)

    taken : (m : ℕ) (xs : List Column) → All (λ (col : Column). IsColumn s col) xs → All (λ (col : Column). IsColumn s col) (take m xs)
    taken zero xs h k d l = absurd (omega (arith, l))
    taken (suc m) [] h k d l = absurd (omega (arith, l))
    taken (suc m) (x ∷ xs) h zero d l = h 0 d (omega arith)
    taken (suc m) (x ∷ xs) h (suc k) d l = taken m xs (λ k d l. h (suc k) d (omega (arith, l))) k d (omega (arith, l))

pub last_plane_small : (s : Surface) (c : Case) (tol spent : ℕ) (w : Work) (basis : List ℕ) (tangent : Plane) (up : ℤ) (found : Found) → s.count ≡ c.n → spent ≤ 10000000 →
    IsListOfWork s c tol spent w basis tangent up found → (i : ℕ) → unsigned_abs (potential tangent.lam i) ≤ 2 ^ 70
last_plane_small s c tol spent w basis tangent up found count within h i =
    rw h.plane
    (elim h.ends.plane [
      | inl searched ↦ rw searched.fair.plane (potential_small c cols basis good last_basis (λ j g. searched.fair.optimal j (omega (arith, g, good.enough))) i)
      | inr cut ↦ rw cut.plane (potential_small c cols start_places good (start_is_basis c cols good) (start_is_optimal c cols good) i)
    ])
  where
    counted : h.start.columns ≡ (c.n + h.candidates) + length h.earlier
    counted = columns_counted s c tol w (beginning c.n h.candidates) h.earlier h.start h.refuted

    all : length w.columns.items ≡ h.start.columns
    all = omega (arith, h.all_columns, h.ends.columns)

    few_rounds : length h.earlier ≤ spent
    few_rounds = omega (arith, h.units)

    columns_at : (m : ℕ) → c.n ≤ m → m ≤ h.start.columns → AreColumns c.n (take m w.columns.items)
    columns_at m more less = columns_of_round s c w.columns.items m count more (omega (arith, less, counted, h.few_candidates, few_rounds, within, c.few)) (omega (arith, all, counted)) h.columns h.pure

    cols : List Column
    cols = take h.last.columns w.columns.items

    good : AreColumns c.n cols
    good = columns_at h.last.columns (omega (arith, h.ends.columns, counted)) (omega (arith, h.ends.columns))

    stands : Stands c w.columns.items h.start
    stands =
        rounds_stand s c tol w (beginning c.n h.candidates) h.earlier h.start h.refuted
        (record {
          enough = omega arith;
          long = refl;
          basis = start_is_basis c (take (c.n + h.candidates) w.columns.items) (columns_at (c.n + h.candidates) (omega arith) (omega (arith, counted)));
        })

    last_basis : IsBasis c cols basis
    last_basis = round_stands s c tol w h.start h.last basis found h.ends stands
