-- A flash so far, and what pivots and rounds make of it.
use Rattle.std.proofs.Common.{◌≡◌, ℕ, ◌+◌, ◌<◌, ◌≤◌, List, [], ◌∷◌, ◌++◌, length, Some, ℤ, ◌+ℤ◌, ◌≤ℤ◌, refl, sym, ap, ◌∙◌, inl, inr, subst, arith, length-append}
use Rattle.std.specs.Prelude.{slice_range}
use Rattle.std.proofs.lemmas.List.{append-nil}
use Rattle.std.specs.Prelude.{All}
use Rattle.std.proofs.lemmas.List.Elements.{All-push, All-append}
use Rattle.std.proofs.Math.ListN.{get_or-append}
use Rattle.std.proofs.Math.Seq.{take-append_seam, take-length}
use Rattle.case_types.specs.Spared.{Spared}
use Rattle.case_types.specs.declared.answers.Work.{Work}
use Rattle.case_types.specs.declared.cases.Case.{Case}
use Rattle.case_types.specs.declared.pivots.Pivot.{Pivot}
use Rattle.case_types.specs.declared.planes.Plane.{Plane}
use Rattle.case_types.specs.declared.rounds.Column.{Column}
use Rattle.case_types.specs.declared.rounds.Round.{Round}
use Rattle.case_types.specs.declared.rounds.RoundEnd.TheVariants as Ends
use Rattle.case_types.specs.Grid.Cells.{root_region}
use Rattle.case_types.specs.Grid.Visits.{OfHand}
use Rattle.case_types.proofs.Exports.{edges-append}
use Rattle.energy_surface.specs.declared.found.Found.{Found}
use Rattle.energy_surface.specs.declared.found.Found.TheVariants.{AllClear, Refuted, Spent, Grain}
use Rattle.energy_surface.specs.Columns.{IsColumn}
use Rattle.energy_surface.specs.Lawful.{IsListOfWork, beginning}
use Rattle.energy_surface.specs.Outcomes.{delta_of}
use Rattle.energy_surface.specs.Program.Bases.{no_column, column_at, start_places, IsBasis}
use Rattle.energy_surface.specs.Program.Pivots.{IsEntering, IsOptimal, ArePivots}
use Rattle.energy_surface.specs.Program.Planes.{plane_of}
use Rattle.energy_surface.specs.Rounds.{Start, own_of, round_end, slack_of, basis_up, IsNearScan, IsRound, AreRefuted, after}
use Rattle.energy_surface.specs.Searches.{IsCutOff, low_of}
use Rattle.energy_surface.specs.Surfaces.{Surface, under, plain_low}
use Rattle.energy_surface.proofs.Exports.{cuts_off}
use Rattle.exact_lp.proofs.Exports.{fair, basis_kept, column_at-append}
use Rattle.box_search.specs.Found.{units_of}
use Rattle.surface_rounds.specs.Flashing.{AreKept, ArePure, IsFlashing, Pivoted}
use Rattle.surface_rounds.specs.Noted.{MakesRound, columns_of, round_noted}
use Rattle.surface_rounds.proofs.Growing.{GoesOn, range-seam, range-grows, range-none, length-range, get-seam, stays, one_more}
use Rattle.surface_rounds.proofs.Pivoting.{pivots_append, places_stay}

-- ---- before the first round
pub kept_begin : (s : Surface) (c : Case) (pure guessed : List Column) → ArePure s c.n pure → All (IsColumn s) guessed → AreKept s c (pure ++ guessed)
kept_begin s c pure guessed are good = record {
  columns = All-append (λ (col : Column). IsColumn s col) pure guessed are.columns good;
  enough = rw length-append (omega (arith, are.counted));
  pure = λ k h. rw (column_there pure guessed k (omega (arith, h, are.counted))) (are.pure k h);
}
  where
    column_there : (xs ys : List Column) (k : ℕ) → k < length xs → column_at (xs ++ ys) k ≡ column_at xs k
    column_there xs ys k h = get_or-append xs ys no_column k h

pub flashing_begins : (s : Surface) (c : Case) (tol spent candidates : ℕ) (w : Work) (at : List ℕ) → AreKept s c w.columns.items → candidates ≤ 32 →
    length w.columns.items ≡ c.n + candidates → w.pivots.items ≡ [] → w.letters.items ≡ [] → w.rounds.items ≡ [] →
    spent ≡ 0 → at ≡ start_places → IsBasis c w.columns.items at → IsFlashing s c tol spent w at
unfolding AreRefuted ArePivots
flashing_begins s c tol spent candidates w at kept few counted ep el er none places basis = record {
  kept = kept;
  places = rw places refl;
  basis = basis;
  start = beginning c.n candidates;
  candidates = candidates;
  few_candidates = few;
  refuted = rw er refl;
  all_columns = sym counted;
  all_letters = rw el refl;
  some_pivots = omega arith;
  pivots = rw ep (sym places);
  units = rw (el, er, ep, none) refl;
}

-- ---- pivots
-- the lists of work with other pivots
abbrev pub with_pivots : Work → Spared Pivot → Work
with_pivots w pivots = record { columns = w.columns; pivots = pivots; letters = w.letters; rounds = w.rounds }

more_pivots : (w : Work) (pivots : Spared Pivot) (own : List Pivot) → pivots.items ≡ w.pivots.items ++ own → GoesOn w (with_pivots w pivots)
more_pivots w pivots own e = record {
  columns = [];
  pivots = own;
  letters = [];
  new_columns = sym (append-nil w.columns.items);
  new_pivots = e;
  new_letters = sym (append-nil w.letters.items);
}

pub flashing_pivots : (s : Surface) (c : Case) (tol spent units now : ℕ) (w : Work) (pivots : Spared Pivot) (at to : List ℕ) → IsFlashing s c tol spent w at →
    Pivoted c w.columns.items at to w.pivots pivots units → IsBasis c w.columns.items to → now ≡ spent + units → IsFlashing s c tol now (with_pivots w pivots) to
flashing_pivots s c tol spent units now w pivots at to f p basis more =
    let n : length pivots.items ≡ length w.pivots.items + length p.own = rw p.pushed (length-append w.pivots.items p.own) in
    record {
      kept = f.kept;
      places = places_stay c w.columns.items at to p.own p.pivots f.places;
      basis = basis;
      start = f.start;
      candidates = f.candidates;
      few_candidates = f.few_candidates;
      refuted = stays s c tol w (with_pivots w pivots) (beginning c.n f.candidates) f.start w.rounds.items (more_pivots w pivots p.own p.pushed)
          (omega (arith, f.all_columns)) f.some_pivots (omega (arith, f.all_letters)) f.refuted;
      all_columns = f.all_columns;
      all_letters = f.all_letters;
      some_pivots = omega (arith, n, f.some_pivots);
      pivots = rw (p.pushed, range-grows w.pivots.items p.own f.start.pivots f.some_pivots)
          (pivots_append c w.columns.items f.start.basis at to (slice_range w.pivots.items f.start.pivots (length w.pivots.items)) p.own f.pivots p.pivots);
      units = omega (arith, n, f.units, p.counted, more);
    }

-- ---- a round whose plane is searched
-- what is known when its search has ended
pub record Searched (s : Surface) (c : Case) (tol spent : ℕ) (old new : Work) (at : List ℕ) (plane : Plane) (u : ℤ) (units : ℕ) (found : Found) : Type 0 where
  pub count : s.count ≡ c.n
  pub fine : 128 ≤ tol
  pub flashing : IsFlashing s c tol spent old at
  pub optimal : IsOptimal c.n old.columns.items at
  pub tangent : plane.lam ≡ plane_of c.n old.columns.items at
  pub near_scan : IsNearScan s c tol u
  pub near_basis : u ≤ℤ (basis_up s c old.columns.items at +ℤ slack_of tol)
  pub went : MakesRound (under s plane.lam (delta_of tol)) plane u old new units found

module _ (s : Surface) (c : Case) (tol spent : ℕ) (old new : Work) (at : List ℕ) (plane : Plane) (u : ℤ) (units : ℕ) (found : Found) (h : Searched s c tol spent old new at plane u units found) where
  goes_on : GoesOn old new
  goes_on = record {
    columns = columns_of found;
    pivots = [];
    letters = h.went.searched.own;
    new_columns = h.went.kept;
    new_pivots = ap (λ (x : Spared Pivot). x.items) h.went.pivots ∙ sym (append-nil old.pivots.items);
    new_letters = h.went.searched.written;
  }

  -- the rounds before it stay
  before_too : AreRefuted s c tol new (beginning c.n h.flashing.candidates) old.rounds.items h.flashing.start
  before_too =
      let f = h.flashing in
      stays s c tol old new (beginning c.n f.candidates) f.start old.rounds.items goes_on (omega (arith, f.all_columns)) (omega (arith, f.some_pivots)) (omega (arith, f.all_letters)) f.refuted

  pivots_same : new.pivots.items ≡ old.pivots.items
  pivots_same = ap (λ (x : Spared Pivot). x.items) h.went.pivots

  own : (start : Start) → own_of new start (round_noted plane u old new.letters (round_end found))
      ≡ record { columns = old.columns.items; pivots = slice_range old.pivots.items start.pivots (length old.pivots.items); letters = h.went.searched.own }
  own start =
      rw (
        h.went.kept,
        pivots_same,
        h.went.searched.written,
        take-append_seam old.columns.items (columns_of found),
        range-seam old.letters.items h.went.searched.own (length (old.letters.items ++ h.went.searched.own)) (length-append old.letters.items h.went.searched.own),
      ) refl

  -- a round as its definition says
  pub round_went : IsRound s c tol h.flashing.start (own_of new h.flashing.start (round_noted plane u old new.letters (round_end found))) (round_noted plane u old new.letters (round_end found)) at found
  round_went =
      let f = h.flashing in
      let to : length new.letters.items ≡ length old.letters.items + length h.went.searched.own = ap length h.went.searched.written ∙ length-append old.letters.items h.went.searched.own in
      rw (own f.start) record {
        columns = sym f.all_columns;
        pivots_to = length-range old.pivots.items f.start.pivots (length old.pivots.items) f.some_pivots (omega arith);
        from = sym f.all_letters;
        to = to ∙ ap (λ n. n + length h.went.searched.own) (sym f.all_letters);
        pivots = f.pivots;
        near_scan = h.near_scan;
        plane = inl (record {
          fair = fair s c tol old.columns.items at (round_noted plane u old new.letters (round_end found)) h.count h.fine f.basis h.optimal f.kept.columns h.tangent h.near_basis;
          near_basis = h.near_basis;
          searched = h.went.searched.searched;
        });
        ended = refl;
      }

  -- where the search ends the flash, no column is kept
  module _ (low : ℤ) (ends : low_of found ≡ Some low) where
    none_kept : (columns_of found ≡ []) × (units_of found ≡ 0)
    none_kept = none_of found ends
      where
        none_of : (found : Found) → low_of found ≡ Some low → (columns_of found ≡ []) × (units_of found ≡ 0)
        none_of (AllClear low) e = (refl, refl)
        none_of (Refuted column) e = absurd (cc e)
        none_of (Spent low) e = (refl, refl)
        none_of (Grain low cell) e = (refl, refl)

    pub columns_stay : new.columns.items ≡ old.columns.items
    columns_stay = h.went.kept ∙ ap (λ cs. old.columns.items ++ cs) none_kept.0 ∙ append-nil old.columns.items

    pub searched_work : (now : ℕ) → now ≡ spent + units → IsListOfWork s c tol now new at plane u found
    searched_work now more =
        let f = h.flashing in
        let es = edges-append old.letters.items h.went.searched.own in
        record {
          columns = rw columns_stay f.kept.columns;
          pure = rw columns_stay f.kept.pure;
          candidates = f.candidates;
          few_candidates = f.few_candidates;
          earlier = old.rounds.items;
          last = round_noted plane u old new.letters (round_end found);
          rounds = h.went.noted;
          start = f.start;
          refuted = before_too;
          ends = round_went;
          all_columns = sym (ap length columns_stay);
          all_pivots = sym (ap length pivots_same);
          all_letters = refl;
          plane = refl;
          u = refl;
          units = rw (h.went.searched.written, es, pivots_same) (omega (arith, f.units, h.went.searched.counted, none_kept.1, more));
        }

  -- where the plane is cut off, the column is kept and the basis stays
  module _ (kept : Column) (is : found ≡ Refuted kept) where
    new_column : IsColumn s kept
    new_column =
        let cause : OfHand (IsCutOff (under s plane.lam (delta_of tol)) kept) h.went.searched.searched.left = rw is at h.went.searched.searched.ends in
        (cuts_off (under s plane.lam (delta_of tol)) kept h.went.searched.searched.left cause).0

    pub column_more : new.columns.items ≡ old.columns.items ++ kept ∷ []
    column_more = h.went.kept ∙ ap (λ g. old.columns.items ++ columns_of g) is

    kept_more : AreKept s c new.columns.items
    kept_more =
        let f = h.flashing in
        rw column_more record {
          columns = All-push (λ (col : Column). IsColumn s col) old.columns.items kept f.kept.columns new_column;
          enough = rw length-append (omega (arith, f.kept.enough));
          pure = λ k l. rw (column_at-append old.columns.items kept k (omega (arith, l, f.kept.enough))) (f.kept.pure k l);
        }

    refuted_too : AreRefuted s c tol new (beginning c.n h.flashing.candidates) (old.rounds.items ++ round_noted plane u old new.letters (round_end found) ∷ []) (after (round_noted plane u old new.letters (round_end found)) at)
    refuted_too =
        one_more s c tol new (beginning c.n h.flashing.candidates) h.flashing.start old.rounds.items (round_noted plane u old new.letters (round_end found)) at kept before_too
        (subst (λ e. IsRound s c tol h.flashing.start (own_of new h.flashing.start (round_noted plane u old new.letters (round_end found))) (round_noted plane u old new.letters (round_end found)) at e) is round_went)
        (rw column_more (get-seam old.columns.items kept))

    none_since : slice_range new.pivots.items (length old.pivots.items) (length new.pivots.items) ≡ []
    none_since = rw pivots_same (range-none old.pivots.items)

    pub flashing_on : (now : ℕ) → now ≡ spent + units → IsFlashing s c tol now new at
    unfolding ArePivots
    flashing_on now more =
        let f = h.flashing in
        let n : length new.columns.items ≡ length old.columns.items + 1 = rw column_more (length-append old.columns.items (kept ∷ [])) in
        let nr : length new.rounds.items ≡ length old.rounds.items + 1 = rw h.went.noted (length-append old.rounds.items (round_noted plane u old new.letters (round_end found) ∷ [])) in
        let es = edges-append old.letters.items h.went.searched.own in
        let unit : units_of found ≡ 1 = ap units_of is in
        record {
          kept = kept_more;
          places = f.places;
          basis = rw column_more (basis_kept c old.columns.items kept at f.basis);
          start = after (round_noted plane u old new.letters (round_end found)) at;
          candidates = f.candidates;
          few_candidates = f.few_candidates;
          refuted = subst (λ rs. AreRefuted s c tol new (beginning c.n h.flashing.candidates) rs (after (round_noted plane u old new.letters (round_end found)) at)) (sym h.went.noted) refuted_too;
          all_columns = sym n;
          all_letters = refl;
          some_pivots = rw pivots_same (omega arith);
          pivots = rw none_since refl;
          units = rw (h.went.searched.written, es, nr, pivots_same) (omega (arith, f.units, h.went.searched.counted, unit, more));
        }

-- ---- a round that no unit is left for
-- what it leaves in the lists of work
pub record CutsShort (plane : Plane) (u : ℤ) (old new : Work) : Type 0 where
  pub noted : new.rounds.items ≡ old.rounds.items ++ round_noted plane u old new.letters Ends.Spent ∷ []
  pub letter : new.letters.items ≡ old.letters.items ++ 112 ∷ []
  pub columns : new.columns.items ≡ old.columns.items
  pub pivots : new.pivots.items ≡ old.pivots.items

pub cut_work : (s : Surface) (c : Case) (tol spent : ℕ) (old new : Work) (at : List ℕ) (plane : Plane) (u low : ℤ) (enter : ℕ) → IsFlashing s c tol spent old at → IsEntering c.n old.columns.items at enter →
    plane.lam ≡ plane_of c.n old.columns.items start_places → IsNearScan s c tol u → CutsShort plane u old new → low ≡ plain_low s plane.lam (root_region s.count) →
    IsListOfWork s c tol spent new at plane u (Spent low)
cut_work s c tol spent old new at plane u low enter f wanted tangent near cut is =
    let r : Round = round_noted plane u old new.letters Ends.Spent in
    let es = edges-append old.letters.items (112 ∷ []) in
    let nl : length new.letters.items ≡ length old.letters.items + 1 = rw cut.letter (length-append old.letters.items (112 ∷ [])) in
    let g : GoesOn old new = record {
      columns = [];
      pivots = [];
      letters = 112 ∷ [];
      new_columns = cut.columns ∙ sym (append-nil old.columns.items);
      new_pivots = cut.pivots ∙ sym (append-nil old.pivots.items);
      new_letters = cut.letter;
    } in
    let own : own_of new f.start r ≡ record { columns = old.columns.items; pivots = slice_range old.pivots.items f.start.pivots (length old.pivots.items); letters = 112 ∷ [] } =
    rw (
      cut.columns,
      cut.pivots,
      cut.letter,
      take-length old.columns.items,
      range-seam old.letters.items (112 ∷ []) (length (old.letters.items ++ 112 ∷ [])) (length-append old.letters.items (112 ∷ [])),
    ) refl in
    record {
      columns = rw cut.columns f.kept.columns;
      pure = rw cut.columns f.kept.pure;
      candidates = f.candidates;
      few_candidates = f.few_candidates;
      earlier = old.rounds.items;
      last = r;
      rounds = cut.noted;
      start = f.start;
      refuted = stays s c tol old new (beginning c.n f.candidates) f.start old.rounds.items g (omega (arith, f.all_columns)) f.some_pivots (omega (arith, f.all_letters)) f.refuted;
      ends = rw own record {
        columns = sym f.all_columns;
        pivots_to = length-range old.pivots.items f.start.pivots (length old.pivots.items) f.some_pivots (omega arith);
        from = sym f.all_letters;
        to = nl ∙ ap (λ n. n + 1) (sym f.all_letters);
        pivots = f.pivots;
        near_scan = near;
        plane = inr (record { enter = enter; wanted = wanted; plane = tangent; one_leaf = refl; spent = ap Spent is });
        ended = refl;
      };
      all_columns = sym (ap length cut.columns);
      all_pivots = sym (ap length cut.pivots);
      all_letters = refl;
      plane = refl;
      u = refl;
      units = rw (cut.letter, es, cut.pivots) (omega (arith, f.units));
    }
