-- The cells that are left when a search stops: their leaf letters, and the least of their lows.
use Rattle.std.proofs.Common.{◌≡◌, ℕ, List, [], ◌∷◌, ◌++◌, map, ℤ, Some, IsTrue, inl, inr, refl, ap, ◌∙◌, append_assoc, arith}
use Rattle.std.proofs.lemmas.Int.{ints}
use Rattle.std.proofs.lemmas.List.{append-nil, map-append}
use Rattle.case_types.specs.Grid.Cells.{Region, Visit, Mark, Misses, misses, letters_of}
use Rattle.case_types.proofs.Exports.{has-left, has-right, each-append}
use Rattle.energy_surface.proofs.Exports.{each_over_less}
use Rattle.box_search.specs.declared.leaves.Leaf.{Leaf}
use Rattle.box_search.specs.Leaves.{IsLeft}
use Rattle.box_search.specs.Written.{IsLeastFrom, Closes}
use Rattle.box_search.proofs.SoFar.{leaf_visit, leaf_over, IsLesser, lesser_is, written_more}
use Rattle.energy_surface.specs.Surfaces.{Surface, low_by}
use Rattle.energy_surface.specs.Searches.{IsStepOver, IsStepAt, left_visit}

-- the least with one leaf more
least_more : (s : Surface) (lam : List ℤ) (first low own next : ℤ) (vs : List Visit) (mark : Mark) (r : Region) → low_by s lam r mark ≡ Some own → IsLesser low own next →
    IsLeastFrom s lam first low vs → IsLeastFrom s lam first next (vs ++ leaf_visit mark r ∷ [])
least_more s lam first low own next vs mark r at lesser h = record {
  lower = omega (arith, ints, lesser.0, h.lower);
  over = each-append (λ v. IsStepOver s lam next v.region v.step) vs (leaf_visit mark r ∷ []) (each_over_less s lam low next lesser.0 vs h.over)
      (leaf_over s lam mark r own next at lesser.1, tt);
  reached = elim (lesser_is low own next lesser) [
    | inr here ↦ inr (has-right (λ v. IsStepAt s lam next v.region v.step) vs (leaf_visit mark r ∷ []) (inl (rw here at)))
    | inl same ↦ elim h.reached [
      | inl old ↦ inl (same ∙ old)
      | inr there ↦ inr (has-left (λ v. IsStepAt s lam next v.region v.step) vs (leaf_visit mark r ∷ []) (rw same there))
    ]
  ];
}

-- what is done of the cells that are left
pub record Closing (s : Surface) (lam : List ℤ) (first : ℤ) (all : List Region) (old now : List ℕ) (low : ℤ) (stack : List Region) : Type 0 where
  pub done : List Region
  pub split : all ≡ done ++ stack
  pub letters : now ≡ old ++ letters_of (map (left_visit s lam) done)
  pub lows : IsLeastFrom s lam first low (map (left_visit s lam) done)

pub close_begins : (s : Surface) (lam : List ℤ) (first : ℤ) (all : List Region) (old : List ℕ) → Closing s lam first all old old first all
close_begins s lam first all old = record {
  done = [];
  split = refl;
  letters = rw append-nil refl;
  lows = record { lower = omega (arith, ints); over = tt; reached = inl refl };
}

-- a cell that stands by a low
pub close_more : (s : Surface) (lam : List ℤ) (first low next : ℤ) (all stack below : List Region) (old now new : List ℕ) (r : Region) (leaf : Leaf) →
    IsLeft s lam r leaf → stack ≡ r ∷ below → new ≡ now ++ leaf.letter ∷ [] → IsLesser low leaf.low next → Closing s lam first all old now low stack → Closing s lam first all old new next below
close_more s lam first low next all stack below old now new r leaf by e f lesser h = record {
  done = h.done ++ r ∷ [];
  split = rw (append_assoc h.done (r ∷ []) below, ← e) h.split;
  letters = rw map-append (written_more old now new (map (left_visit s lam) h.done) (left_visit s lam r) h.letters (rw by.letter at f));
  lows = rw map-append (least_more s lam first low leaf.low next (map (left_visit s lam) h.done) _ r by.low lesser h.lows);
}

-- a cell that holds no composition changes no low
least_passes : (s : Surface) (lam : List ℤ) (first low : ℤ) (vs : List Visit) (r : Region) → IsTrue (misses s.count r) →
    IsLeastFrom s lam first low vs → IsLeastFrom s lam first low (vs ++ leaf_visit Misses r ∷ [])
least_passes s lam first low vs r miss h = record {
  lower = h.lower;
  over = each-append (λ v. IsStepOver s lam low v.region v.step) vs (leaf_visit Misses r ∷ []) h.over (miss, tt);
  reached = elim h.reached [
    | inl old ↦ inl old
    | inr there ↦ inr (has-left (λ v. IsStepAt s lam low v.region v.step) vs (leaf_visit Misses r ∷ []) there)
  ];
}

pub close_passes : (s : Surface) (lam : List ℤ) (first low : ℤ) (all stack below : List Region) (old now new : List ℕ) (r : Region) →
    IsTrue (misses s.count r) → stack ≡ r ∷ below → new ≡ now ++ 109 ∷ [] → Closing s lam first all old now low stack → Closing s lam first all old new low below
close_passes s lam first low all stack below old now new r miss e f h = record {
  done = h.done ++ r ∷ [];
  split = rw (append_assoc h.done (r ∷ []) below, ← e) h.split;
  letters = rw (map-append, miss) (written_more old now new (map (left_visit s lam) h.done) (leaf_visit Misses r) h.letters f);
  lows = rw (map-append, miss) (least_passes s lam first low (map (left_visit s lam) h.done) r miss h.lows);
}

pub closed : (s : Surface) (lam : List ℤ) (first low : ℤ) (all stack : List Region) (old now : List ℕ) → stack ≡ [] →
    Closing s lam first all old now low stack → Closes s lam first all old now low
closed s lam first low all stack old now e h =
    let same : all ≡ h.done = rw (e, append-nil h.done) at h.split in
    let leaves : map (left_visit s lam) all ≡ map (left_visit s lam) h.done = ap (λ rs. map (left_visit s lam) rs) same in
    record { written = rw leaves h.letters; lows = rw leaves h.lows }
