-- The rounds of a flash stay as the lists of work go on.
use Rattle.std.proofs.Common.{◌≡◌, ℕ, ◌+◌, ◌-◌, ◌≤◌, ◌<◌, List, [], ◌∷◌, ◌++◌, length, drop, Some, refl, ap, ◌∙◌, arith, length-append, length-drop}
use Rattle.std.specs.Prelude.{slice_get, slice_range}
use Rattle.std.proofs.lemmas.List.{take-append-le, drop-append-le, length-take}
use Rattle.std.proofs.Math.Seq.{drop-append_seam, take-length, get_or-append_seam}
use Rattle.std.proofs.Math.ListN.{get_or-append}
use Rattle.std.proofs.lemmas.Option.{get_or_from_slice_get, slice_get_within, slice_get-get_or}
use Rattle.case_types.specs.declared.answers.Work.{Work}
use Rattle.case_types.specs.declared.cases.Case.{Case}
use Rattle.case_types.specs.declared.pivots.Pivot.{Pivot}
use Rattle.case_types.specs.declared.rounds.Column.{Column}
use Rattle.case_types.specs.declared.rounds.Round.{Round}
use Rattle.energy_surface.specs.declared.found.Found.TheVariants.{Refuted}
use Rattle.energy_surface.specs.Rounds.{Start, own_of, IsRound, AreRefuted, after}
use Rattle.energy_surface.specs.Surfaces.{Surface}

-- ---- lists that grow at their end
pub range-append : {X : Type 0} (xs ys : List X) (i j : ℕ) → i ≤ j → j ≤ length xs → slice_range (xs ++ ys) i j ≡ slice_range xs i j
range-append xs ys i j h k =
    let a : i ≤ length xs = omega (arith, h, k) in
    let b : j - i ≤ length (drop i xs) = rw length-drop (omega (arith, h, k)) in
    rw (drop-append-le i xs ys a) (take-append-le (j - i) (drop i xs) ys b)

pub range-seam : {X : Type 0} (xs ys : List X) (j : ℕ) → j ≡ length xs + length ys → slice_range (xs ++ ys) (length xs) j ≡ ys
range-seam xs ys j e =
    let n : j - length xs ≡ length ys = omega (arith, e) in
    rw (n, drop-append_seam xs ys) (take-length ys)

-- from a place on, both parts
pub range-grows : {X : Type 0} (xs ys : List X) (i : ℕ) → i ≤ length xs → slice_range (xs ++ ys) i (length (xs ++ ys)) ≡ slice_range xs i (length xs) ++ ys
range-grows xs ys i h =
    let part : length xs - i ≡ length (drop i xs) = rw length-drop refl in
    let all : length (xs ++ ys) - i ≡ length (drop i xs ++ ys) = rw (length-append, length-append, length-drop) (omega (arith, h)) in
    rw (drop-append-le i xs ys h, part, all, take-length (drop i xs), take-length (drop i xs ++ ys)) refl

pub range-none : {X : Type 0} (xs : List X) → slice_range xs (length xs) (length xs) ≡ []
range-none xs = let none : length xs - length xs ≡ 0 = omega arith in rw none refl

pub length-range : {X : Type 0} (xs : List X) (i j : ℕ) → i ≤ j → j ≤ length xs → j ≡ i + length (slice_range xs i j)
length-range xs i j h k = rw (length-take, length-drop) (omega (arith, h, k))

pub get-append : {X : Type 0} (xs ys : List X) (i : ℕ) (x : X) → slice_get xs i ≡ Some x → slice_get (xs ++ ys) i ≡ Some x
get-append xs ys i x e =
    let w : i < length xs = slice_get_within xs i x e in
    let l : i < length (xs ++ ys) = rw length-append (omega (arith, w)) in
    slice_get-get_or (xs ++ ys) i x l ∙ ap Some (get_or-append xs ys x i w ∙ get_or_from_slice_get xs i x x e)

pub get-seam : {X : Type 0} (xs : List X) (x : X) → slice_get (xs ++ x ∷ []) (length xs) ≡ Some x
get-seam xs x =
    let l : length xs < length (xs ++ x ∷ []) = rw length-append (omega arith) in
    slice_get-get_or (xs ++ x ∷ []) (length xs) x l ∙ ap Some (get_or-append_seam xs x [] x)

-- ---- one list of work goes on with another
pub record GoesOn (old new : Work) : Type 0 where
  pub columns : List Column
  pub pivots : List Pivot
  pub letters : List ℕ
  pub new_columns : new.columns.items ≡ old.columns.items ++ columns
  pub new_pivots : new.pivots.items ≡ old.pivots.items ++ pivots
  pub new_letters : new.letters.items ≡ old.letters.items ++ letters

record IsBefore (s last : Start) : Type 0 where
  pub columns : s.columns ≤ last.columns
  pub pivots : s.pivots ≤ last.pivots
  pub letters : s.letters ≤ last.letters

-- the starts of the rounds never fall
rising : (surface : Surface) (c : Case) (tol : ℕ) (w : Work) (s last : Start) (rs : List Round) → AreRefuted surface c tol w s rs last → IsBefore s last
unfolding AreRefuted
rising surface c tol w s last [] h = rw h (record { columns = omega arith; pivots = omega arith; letters = omega arith })
rising surface c tol w s last (r ∷ rs) h =
    let k = rising surface c tol w (after r h.0) last rs h.4 in
    let e = h.2 in
    record {
      columns = omega (arith, k.columns, e.columns);
      pivots = omega (arith, k.pivots, e.pivots_to);
      letters = omega (arith, k.letters, e.from, e.to);
    }

-- a round's own part stays
own-stays : (old new : Work) (s : Start) (r : Round) → GoesOn old new → r.columns ≤ length old.columns.items → s.pivots ≤ r.pivots → r.pivots ≤ length old.pivots.items → r.from ≤ r.to → r.to ≤ length old.letters.items →
    own_of new s r ≡ own_of old s r
own-stays old new s r g c p q f t =
    rw (
      g.new_columns,
      g.new_pivots,
      g.new_letters,
      take-append-le r.columns old.columns.items g.columns c,
      range-append old.pivots.items g.pivots s.pivots r.pivots p q,
      range-append old.letters.items g.letters r.from r.to f t,
    ) refl

-- what the starts say stays as the lists go on
pub stays : (surface : Surface) (c : Case) (tol : ℕ) (old new : Work) (s last : Start) (rs : List Round) → GoesOn old new →
    last.columns ≤ length old.columns.items → last.pivots ≤ length old.pivots.items → last.letters ≤ length old.letters.items →
    AreRefuted surface c tol old s rs last → AreRefuted surface c tol new s rs last
unfolding AreRefuted
stays surface c tol old new s last [] g a p l h = h
stays surface c tol old new s last (r ∷ rs) g a p l h =
    let k = rising surface c tol old (after r h.0) last rs h.4 in
    let e = h.2 in
    let same = own-stays old new s r g (omega (arith, k.columns, a)) (omega (arith, e.pivots_to)) (omega (arith, k.pivots, p)) (omega (arith, e.to, e.from)) (omega (arith, k.letters, l)) in (
      h.0,
      h.1,
      rw same e,
      rw g.new_columns (get-append old.columns.items g.columns r.columns h.1 h.3),
      stays surface c tol old new (after r h.0) last rs g a p l h.4,
    )

-- one round more
pub one_more : (surface : Surface) (c : Case) (tol : ℕ) (w : Work) (s mid : Start) (rs : List Round) (r : Round) (basis : List ℕ) (kept : Column) → AreRefuted surface c tol w s rs mid →
    IsRound surface c tol mid (own_of w mid r) r basis (Refuted kept) → slice_get w.columns.items r.columns ≡ Some kept → AreRefuted surface c tol w s (rs ++ r ∷ []) (after r basis)
unfolding AreRefuted
one_more surface c tol w s mid [] r basis kept h n at = (basis, kept, rw h n, at, refl)
one_more surface c tol w s mid (q ∷ rs) r basis kept h n at = (h.0, h.1, h.2, h.3, one_more surface c tol w (after q h.0) mid rs r basis kept h.4 n at)
