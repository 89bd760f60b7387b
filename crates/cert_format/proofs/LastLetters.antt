-- The letters of the last round of a lawful answer are those of a good tree.
use Rattle.std.proofs.Common.{◌≡◌, ℕ, zero, suc, ◌-◌, ◌+◌, ◌*◌, ◌≤◌, List, [], ◌∷◌, ◌++◌, length, take, drop, refl, sym, ap, ◌∙◌, arith, inl, inr, true, false, Some, ℤ}
use Rattle.std.specs.Prelude.{◌⊎◌, int_le, slice_get, slice_index, slice_range}
use Rattle.std.proofs.Math.Seq.{get_or-append_seam}
use Rattle.std.proofs.lemmas.List.{length-append, take-append-drop}
use Rattle.std.proofs.lemmas.Option.{slice_get-get_or}
use Rattle.log_laws.specs.Sums.{sum_below}
use Rattle.case_types.specs.declared.planes.Plane.{Plane}
use Rattle.case_types.specs.declared.rounds.Round.{Round}
use Rattle.case_types.specs.Grid.Cells.{Leaf, Plain, visits, root_region, misses}
use Rattle.case_types.specs.Grid.Visits.{edges_in}
use Rattle.case_types.proofs.Exports.{edges-append}
use Rattle.energy_surface.specs.Outcomes.{delta_of}
use Rattle.energy_surface.specs.Rounds.{Own, own_of, IsSearchedRound, IsCutShort}
use Rattle.energy_surface.specs.Searches.{low_of}
use Rattle.energy_surface.specs.Surfaces.{Surface, plain_low}
use Rattle.cert_letters.specs.Bounds.{leaf_test}
use Rattle.cert_letters.specs.Lines.{IsGoodTree}
use Rattle.cert_letters.specs.Searched.{AreOfTree}
use Rattle.cert_letters.proofs.Exports.{searches_write_trees, tree_length}
use Rattle.cert_format.specs.Answers.{AnswersWriteTrees}
use Rattle.cert_format.specs.Writing.{last_letters, letters_of_round}

-- ---- the last round
last_of : (earlier : List Round) (last : Round) (rounds : List Round) → rounds ≡ earlier ++ last ∷ [] → slice_get rounds (length rounds - 1) ≡ Some last
last_of earlier last rounds e =
    let count : length rounds ≡ length earlier + 1 = ap length e ∙ length-append earlier (last ∷ []) in
    let place : length rounds - 1 ≡ length earlier = omega (arith, count) in
    slice_get-get_or rounds (length rounds - 1) last (omega (arith, count))
    ∙ ap Some (rw (place, e) (get_or-append_seam earlier last [] last))

-- ---- a tree of one leaf
none_sum : (k : ℕ) → sum_below k (slice_index (0 ∷ 0 ∷ 0 ∷ [])) ≡ 0
none_sum zero = refl
none_sum (suc zero) = refl
none_sum (suc (suc zero)) = refl
none_sum (suc (suc (suc k))) = rw (none_sum (suc (suc k)), past k) refl
  where
    past : (k : ℕ) → slice_index (0 ∷ 0 ∷ 0 ∷ []) (suc (suc k)) ≡ 0
    past zero = refl
    past (suc k) = refl

root_meets : (n : ℕ) → misses n (root_region n) ≡ false
root_meets n = rw (none_sum (n - 1)) refl

one_leaf : (s : Surface) (lam : List ℤ) (low : ℤ) (letters : List ℕ) → letters ≡ 112 ∷ [] → low ≡ plain_low s lam (root_region s.count) → AreOfTree s lam low letters
unfolding visits IsGoodTree leaf_test
one_leaf s lam low letters e l = record {
  tree = Leaf Plain;
  good = rw (l, root_meets s.count, same (plain_low s lam (root_region s.count))) refl;
  written = e;
}
  where
    same : (z : ℤ) → int_le z z ≡ true
    same z = grind arith

same_low : (x y : ℤ) → Some x ≡ Some y → x ≡ y
same_low x y e = cc

-- ---- how many
edges_fewer : (xs ys zs : List ℕ) → xs ++ ys ≡ zs → edges_in xs ≤ edges_in zs × edges_in ys ≤ edges_in zs
edges_fewer xs ys zs e =
    let sum : edges_in zs ≡ edges_in xs + edges_in ys = ap edges_in (sym e) ∙ edges-append xs ys in
    (omega (arith, sum), omega (arith, sum))

range_fewer : (xs : List ℕ) (from to : ℕ) → edges_in (slice_range xs from to) ≤ edges_in xs
range_fewer xs from to =
    let front = (edges_fewer (take (to - from) (drop from xs)) (drop (to - from) (drop from xs)) (drop from xs) (take-append-drop (to - from) (drop from xs))).0 in
    let rest = (edges_fewer (take from xs) (drop from xs) xs (take-append-drop from xs)).1 in
    omega (arith, front, rest)

pub answers_write_trees : AnswersWriteTrees
answers_write_trees s c tol budget a some few h =
    let w = h.work in
    let own : Own = own_of a.work w.start w.last in
    let own_letters : last_letters a.work ≡ own.letters = ap (letters_of_round a.work) (last_of w.earlier w.last a.work.rounds.items w.rounds) in
    let lam : a.plane.lam ≡ w.last.plane.lam = ap (λ (p : Plane). p.lam) w.plane in
    let of_round : IsSearchedRound s c tol own h.basis w.last h.found ⊎ IsCutShort s c own h.basis w.last h.found → AreOfTree s w.last.plane.lam a.low own.letters =
    λ plane. elim plane [
      | inl x ↦ searches_write_trees s w.last.plane.lam (delta_of tol) a.low h.found own.letters few h.low x.searched
      | inr x ↦ one_leaf s w.last.plane.lam a.low own.letters x.one_leaf
          (same_low a.low (plain_low s w.last.plane.lam (root_region s.count)) (sym h.low ∙ ap low_of x.spent))
    ] in
    let tree : AreOfTree s a.plane.lam a.low (last_letters a.work) = rw (own_letters, lam) (of_round w.ends.plane) in
    let count = tree_length s.count (leaf_test s a.plane.lam a.low) tree.tree (root_region s.count) few tree.good in
    let edges : edges_in (last_letters a.work) ≤ edges_in a.work.letters.items = rw own_letters (range_fewer a.work.letters.items w.last.from w.last.to) in
    let long : length (last_letters a.work) ≡ 2 * edges_in (last_letters a.work) + 1 = rw tree.written count in
    record {
      written = tree;
      some = omega (arith, long);
      few = omega (arith, long, edges, w.units, h.answer.within);
    }
