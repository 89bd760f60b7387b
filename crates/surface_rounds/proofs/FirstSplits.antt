-- The splits that are there before the first round.
use Rattle.std.proofs.Common.{◌≡◌, ℕ, ◌^◌, ◌<◌, List, [], ◌∷◌, ◌++◌, length, map, drop, ◌≤ℤ◌, unsigned_abs, refl, ap, sym, ◌∙◌, arith, length-append}
use Rattle.std.specs.Prelude.{All, slice_index_or}
use Rattle.std.proofs.lemmas.List.{drop-append-le, map-append, append_assoc}
use Rattle.std.proofs.lemmas.List.Elements.{All-cons, All-nil, All-push}
use Rattle.case_types.specs.declared.cases.Case.{Case}
use Rattle.case_types.specs.declared.phases.Phase.{Phase}
use Rattle.case_types.specs.declared.phases.Split.{Split}
use Rattle.case_types.specs.Arithmetic.Bounds.{Box, box_of_parts}
use Rattle.case_types.specs.Arithmetic.Splits.{phase_up, split_up}
use Rattle.energy_surface.specs.Scans.{scan_packing, one_phase_up}
use Rattle.energy_surface.specs.Surfaces.{Surface}
use Rattle.split_energies.specs.Feeds.{feed_phase, IsOnePhase}
use Rattle.split_energies.proofs.Exports.{feed_up, one_phase_energy, one_phase_divides, through, scan_inside, lowest_is}
use Rattle.split_energies.specs.declared.scans.Scanned.{Scanned}
use Rattle.surface_rounds.specs.declared.splits.Rival.{Rival}
use Rattle.split_energies.specs.Scanned.{IsInside}
use Rattle.surface_rounds.specs.Guessing.{IsGuess}
use Rattle.surface_rounds.specs.Rivals.{energy_at, IsRival, AreRivals, splits_behind}
use Rattle.split_energies.specs.Scanned.{IsScanned, lowest_of}

-- ---- the feed in one phase
pub record IsAlone (s : Surface) (c : Case) (found : Scanned) : Type 0 where
  pub up : found.up ≡ s.up (box_of_parts c.n c.z) found.packing
  pub inside : IsInside found.packing
  pub small : unsigned_abs found.up < 2 ^ 49
  pub scanned : (k : ℕ) → k < 64 → found.up ≤ℤ one_phase_up s c (scan_packing k)

pub alone_found : (s : Surface) (c : Case) (x : Box) (ps : List ℕ) (last found : Scanned) → s.count ≡ c.n → x ≡ box_of_parts c.n c.z → IsScanned s x last → All IsInside ps →
    found ≡ lowest_of s x ps last → unsigned_abs found.up < 2 ^ 49 → IsAlone s c found
alone_found s c x ps last found count box scanned inside is small =
    let low = lowest_is s x ps last inside scanned.up (scan_inside s x last scanned) in
    record {
      up = ap (λ (f : Scanned). f.up) is ∙ low.up ∙ ap (λ b. s.up b (lowest_of s x ps last).packing) box ∙ ap (λ (f : Scanned). s.up (box_of_parts c.n c.z) f.packing) (sym is);
      inside = rw is low.inside;
      small = small;
      scanned = λ k h. through found.up last.up (one_phase_up s c (scan_packing k)) (rw is low.no_higher) (rw (count, ← box) (scanned.least k h));
    }

pub alone_guess : (s : Surface) (c : Case) (found : Scanned) (split : Split) → s.count ≡ c.n → IsAlone s c found → IsOnePhase c found.packing split → IsGuess s c split
alone_guess s c found split count alone is = record {
  divides = one_phase_divides c found.packing split is alone.inside.some alone.inside.less;
  shallow = rw is.phases (All-cons (λ (f : Phase). unsigned_abs (phase_up s.count s.up f) < 2 ^ 49) (feed_phase c found.packing) []
      (rw (feed_up s c found.packing count, ← alone.up) alone.small) (All-nil (λ (f : Phase). unsigned_abs (phase_up s.count s.up f) < 2 ^ 49)));
}

pub alone_energy : (s : Surface) (c : Case) (found : Scanned) (split : Split) (r : Rival) → s.count ≡ c.n → IsAlone s c found → IsOnePhase c found.packing split → IsRival s c r → r.split ≡ split → r.u ≡ found.up
alone_energy s c found split r count alone is rival same =
    rival.energy ∙ ap (split_up s.count s.up) same ∙ sym (one_phase_energy s c found.packing found.up split count is alone.up)

-- ---- one rival more
pub first_rival : (s : Surface) (c : Case) (r : Rival) → IsRival s c r → ((k : ℕ) → k < 64 → r.u ≤ℤ one_phase_up s c (scan_packing k)) → AreRivals s c (r ∷ [])
first_rival s c r is scanned = record { each = All-cons (IsRival s c) r [] is (All-nil (IsRival s c)); some = omega arith; scanned = scanned }

first_stays : (rivals : List Rival) (r : Rival) → 0 < length rivals → energy_at (rivals ++ r ∷ []) 0 ≡ energy_at rivals 0
first_stays [] r some = absurd (omega (arith, some))
first_stays (q ∷ qs) r some = refl

pub rival_more : (s : Surface) (c : Case) (rivals : List Rival) (r : Rival) → AreRivals s c rivals → IsRival s c r → AreRivals s c (rivals ++ r ∷ [])
rival_more s c rivals r are is = record {
  each = All-push (IsRival s c) rivals r are.each is;
  some = rw length-append (omega (arith, are.some));
  scanned = λ k h. rw (first_stays rivals r are.some) (are.scanned k h);
}

-- a guess goes from the front of the one list to the end of the other
front_taken : (split : Split) (guessed : List Split) → 0 < length guessed → split ≡ slice_index_or guessed 0 split → guessed ≡ split ∷ drop 1 guessed
front_taken split [] some is = absurd (omega (arith, some))
front_taken split (x ∷ xs) some is = ap (λ (y : Split). y ∷ xs) (sym is)

pub behind_more : (rivals : List Rival) (r : Rival) (split : Split) (guessed : List Split) → 0 < length rivals → r.split ≡ split → 0 < length guessed →
    split ≡ slice_index_or guessed 0 split → splits_behind (rivals ++ r ∷ []) ++ drop 1 guessed ≡ splits_behind rivals ++ guessed
behind_more rivals r split guessed one same some is =
    let front = front_taken split guessed some is in
    let more : splits_behind (rivals ++ r ∷ []) ≡ splits_behind rivals ++ split ∷ [] =
    ap (map (λ (q : Rival). q.split)) (drop-append-le 1 rivals (r ∷ []) (omega (arith, one))) ∙ map-append (λ (q : Rival). q.split) (drop 1 rivals) (r ∷ [])
    ∙ ap (λ (y : Split). splits_behind rivals ++ y ∷ []) same in
    ap (λ ys. ys ++ drop 1 guessed) more ∙ append_assoc (splits_behind rivals) (split ∷ []) (drop 1 guessed) ∙ ap (λ ys. splits_behind rivals ++ ys) (sym front)
