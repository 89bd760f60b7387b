-- A line of letters is read whole exactly where it writes a good tree.
use Rattle.std.proofs.Common.{◌≡◌, ℕ, zero, suc, ◌+◌, ◌-◌, ◌≤◌, List, [], ◌∷◌, ◌++◌, length, get_or, drop, refl, sym, ap, subst, ◌∙◌, Bool, true, false, if◌then◌else◌, arith, Option, Some, None}
use Rattle.std.specs.Prelude.{◌==◌}
use Rattle.std.proofs.lemmas.Bool.{eqb-true}
use Rattle.std.proofs.lemmas.Bool.Decides.{nat_tests}
use Rattle.std.proofs.lemmas.List.{append-nil}
use Rattle.case_types.specs.Grid.Cells.{Region, Mark, Step, Ends, Halves, Visit, letter_of, lower_half, upper_half, root_region}
use Rattle.cert_letters.specs.Steps.{step_of, can_halve}
use Rattle.cert_letters.specs.Readings.{Reading, visit_at, visit_of, next, by_step, by_visit}
use Rattle.cert_letters.specs.Lines.{LineEnd, BadAt, FailsAt, Behind, judged, line_end, tree_letters, LinesAreTrees, TreesAreLines}
use Rattle.cert_letters.proofs.Finishing.{Finishes, CanStand, behind, finishes_more, front_of}
use Rattle.cert_letters.proofs.Steps.{step_takes, step_again}

-- ---- one byte
abbrev state : ℕ → List Region → ℕ → ℕ → Reading
state n cells left leaves = record { count = n; cells = cells; left = left; leaves = leaves; failed = false }

-- what the visit of a byte at a place leads to
abbrev on_visit : (Region → Mark → Bool) → Reading → ℕ → List ℕ → Option Visit → LineEnd
on_visit good r at bytes o = judged good o (by_visit r o).leaves at (line_end good (by_visit r o) (at + 1) bytes)

some_left : (left : ℕ) → (suc left == 0) ≡ false
some_left left = grind (arith, nat_tests)

-- one byte, where a cell and a letter are left
line_step : (n : ℕ) (good : Region → Mark → Bool) (c : Region) (below : List Region) (left leaves at b : ℕ) (bytes : List ℕ)
    → line_end good (state n (c ∷ below) (suc left) leaves) at (b ∷ bytes)
    ≡ on_visit good (state n (c ∷ below) (suc left) leaves) at bytes (visit_at c (step_of n b))
unfolding line_end next visit_of
line_step n good c below left leaves at b bytes = rw (some_left left) refl

-- what was read of the line, and what is behind it
record Reads (n : ℕ) (good : Region → Mark → Bool) (cells : List Region) (left : ℕ) (bytes rest : List ℕ) : Type 0 where
  letters : List ℕ
  parts : bytes ≡ letters ++ 10 ∷ rest
  finishes : Finishes n good cells letters
  counted : length letters ≡ left

behind_is : (x y : List ℕ) → Behind x ≡ Behind y → x ≡ y
behind_is x y e = cc

passes : (t : Bool) (index : ℕ) (x : LineEnd) (rest : List ℕ) → (if t then x else FailsAt index) ≡ Behind rest → (t ≡ true) × (x ≡ Behind rest)
passes true index x rest e = (refl, e)
passes false index x rest e = absurd cc

wide : (t : Bool) (good : Region → Mark → Bool) (r : Reading) (c : Region) (edge at : ℕ) (bytes rest : List ℕ) → can_halve c edge ≡ t
    → on_visit good r at bytes (visit_at c (Some (Halves edge))) ≡ Behind rest
    → (can_halve c edge ≡ true) × (line_end good (by_step r c (Halves edge)) (at + 1) bytes ≡ Behind rest)
wide true good r c edge at bytes rest h e = (h, rw h at e)
wide false good r c edge at bytes rest h e =
    let f : BadAt at ≡ Behind rest = rw h at e in
    absurd cc

-- ---- each way
sound : (n : ℕ) (good : Region → Mark → Bool) (cells : List Region) (left leaves at : ℕ) (bytes rest : List ℕ) → n ≤ 4
    → line_end good (state n cells left leaves) at bytes ≡ Behind rest → Reads n good cells left bytes rest
unfolding line_end visit_of Finishes
sound n good cells left leaves at [] rest few e = absurd cc
sound n good [] zero leaves at (b ∷ bytes) rest few e = by_byte (b == 10) refl e
  where
    by_byte : (t : Bool) → (b == 10) ≡ t
        → (if t then Behind bytes else judged good (visit_of (state n [] zero leaves) b) (next (state n [] zero leaves) b).leaves at (line_end good (next (state n [] zero leaves) b) (at + 1) bytes)) ≡ Behind rest
        → Reads n good [] zero (b ∷ bytes) rest
    by_byte true h e = record {
      letters = [];
      parts = ap (λ (x : ℕ). x ∷ bytes) (eqb-true b 10 h) ∙ ap (λ (t : List ℕ). 10 ∷ t) (behind_is bytes rest e);
      finishes = refl;
      counted = refl;
    }
    by_byte false h e = absurd cc
sound n good [] (suc left) leaves at (b ∷ bytes) rest few e = absurd (no_cell n good left leaves at b bytes rest e)
  where
    no_cell : (n : ℕ) (good : Region → Mark → Bool) (left leaves at b : ℕ) (bytes rest : List ℕ) → line_end good (state n [] (suc left) leaves) at (b ∷ bytes) ≡ Behind rest → ⊥
    no_cell n good left leaves at b bytes rest e =
        let none : (suc left == 0) ≡ false = some_left left in
        let f : BadAt at ≡ Behind rest = rw none at e in
        cc
sound n good (c ∷ below) zero leaves at (b ∷ bytes) rest few e = absurd (no_letter n good c below leaves at b bytes rest e)
  where
    no_letter : (n : ℕ) (good : Region → Mark → Bool) (c : Region) (below : List Region) (leaves at b : ℕ) (bytes rest : List ℕ)
        → line_end good (state n (c ∷ below) zero leaves) at (b ∷ bytes) ≡ Behind rest → ⊥
    no_letter n good c below leaves at b bytes rest e = cc
sound n good (c ∷ below) (suc left) leaves at (b ∷ bytes) rest few e =
    by_one (λ cells leaves at f. sound n good cells left leaves at bytes rest few f) (step_of n b) refl (sym (line_step n good c below left leaves at b bytes) ∙ e)
  where
    by_one : ((cells : List Region) (leaves at : ℕ) → line_end good (state n cells left leaves) at bytes ≡ Behind rest → Reads n good cells left bytes rest)
        → (o : Option Step) → step_of n b ≡ o
        → on_visit good (state n (c ∷ below) (suc left) leaves) at bytes (visit_at c o) ≡ Behind rest
        → Reads n good (c ∷ below) (suc left) (b ∷ bytes) rest
    by_one again None h e = absurd cc
    by_one again (Some (Ends mark)) h e =
        let less : suc left - 1 ≡ left = omega arith in
        let g = passes (good c mark) (leaves + 1) (line_end good (state n below (suc left - 1) (leaves + 1)) (at + 1) bytes) rest e in
        let r = again below (leaves + 1) (at + 1) (rw less at g.1) in
        let l = step_takes n b (Ends mark) few h in
        record {
          letters = b ∷ r.letters;
          parts = ap (λ (t : List ℕ). b ∷ t) r.parts;
          finishes = subst (λ x. Finishes n good (c ∷ below) (x ∷ r.letters)) l.letter (finishes_more n good c below (Ends mark) r.letters g.0 r.finishes);
          counted = ap suc r.counted;
        }
    by_one again (Some (Halves edge)) h e =
        let less : suc left - 1 ≡ left = omega arith in
        let g = wide (can_halve c edge) good (state n (c ∷ below) (suc left) leaves) c edge at bytes rest refl e in
        let r = again (lower_half edge c ∷ upper_half edge c ∷ below) leaves (at + 1) (rw less at g.1) in
        let l = step_takes n b (Halves edge) few h in
        record {
          letters = b ∷ r.letters;
          parts = ap (λ (t : List ℕ). b ∷ t) r.parts;
          finishes = subst (λ x. Finishes n good (c ∷ below) (x ∷ r.letters)) l.letter (finishes_more n good c below (Halves edge) r.letters (l.edge, g.0) r.finishes);
          counted = ap suc r.counted;
        }

-- one letter in front, where what is behind it is read
by_front : (n : ℕ) (good : Region → Mark → Bool) (c : Region) (below : List Region) (l : ℕ) (ls : List ℕ) (leaves at : ℕ) (rest : List ℕ) → n ≤ 4
    → ((cells : List Region) (left leaves at : ℕ) → length ls ≡ left → Finishes n good cells ls → line_end good (state n cells left leaves) at (ls ++ 10 ∷ rest) ≡ Behind rest)
    → (s : Step) → l ≡ letter_of s → CanStand n good c s → Finishes n good (behind c below s) ls
    → on_visit good (state n (c ∷ below) (suc (length ls)) leaves) at (ls ++ 10 ∷ rest) (visit_at c (step_of n l)) ≡ Behind rest
by_front n good c below l ls leaves at rest few again (Ends mark) e can f =
    let less : length ls ≡ suc (length ls) - 1 = omega arith in
    rw (e, step_again n (Ends mark) few tt, can) (again below (suc (length ls) - 1) (leaves + 1) (at + 1) less f)
by_front n good c below l ls leaves at rest few again (Halves edge) e can f =
    let less : length ls ≡ suc (length ls) - 1 = omega arith in
    rw (e, step_again n (Halves edge) few can.0, can.1) (again (lower_half edge c ∷ upper_half edge c ∷ below) (suc (length ls) - 1) leaves (at + 1) less f)

complete : (n : ℕ) (good : Region → Mark → Bool) (cells : List Region) (ls : List ℕ) (left leaves at : ℕ) (rest : List ℕ) → n ≤ 4 → length ls ≡ left
    → Finishes n good cells ls → line_end good (state n cells left leaves) at (ls ++ 10 ∷ rest) ≡ Behind rest
unfolding line_end Finishes
complete n good [] [] left leaves at rest few counted f = rw (← counted) refl
complete n good [] (l ∷ ls) left leaves at rest few counted f = absurd cc
complete n good (c ∷ below) [] left leaves at rest few counted f =
    let g = front_of n good c below [] f in
    let e : [] ≡ letter_of g.step ∷ g.rest = g.is in
    absurd cc
complete n good (c ∷ below) (l ∷ ls) left leaves at rest few counted f =
    let g = front_of n good c below (l ∷ ls) f in
    let head : l ≡ letter_of g.step = ap (λ (t : List ℕ). get_or t 0 0) g.is in
    let tail : ls ≡ g.rest = ap (λ (t : List ℕ). drop 1 t) g.is in
    let steps : line_end good (state n (c ∷ below) (suc (length ls)) leaves) at (l ∷ (ls ++ 10 ∷ rest)) ≡ Behind rest =
    line_step n good c below (length ls) leaves at l (ls ++ 10 ∷ rest)
    ∙ by_front n good c below l ls leaves at rest few (λ cells left leaves at counted f. complete n good cells ls left leaves at rest few counted f) g.step head g.can
    (subst (λ (t : List ℕ). Finishes n good (behind c below g.step) t) (sym tail) g.finishes) in
    subst (λ (k : ℕ). line_end good (state n (c ∷ below) k leaves) at (l ∷ (ls ++ 10 ∷ rest)) ≡ Behind rest) counted steps

-- ---- from the first letter
pub line_takes : LinesAreTrees
unfolding Finishes
line_takes n letters good bytes rest few e =
    let r = sound n good (root_region n ∷ []) letters 0 1 bytes rest few e in
    let f = r.finishes in
    let whole : r.letters ≡ tree_letters n f.0 = f.2 ∙ ap (λ (t : List ℕ). tree_letters n f.0 ++ t) f.4 ∙ append-nil (tree_letters n f.0) in
    (f.0, f.3, ap length (sym whole) ∙ r.counted, r.parts ∙ ap (λ (t : List ℕ). t ++ 10 ∷ rest) whole)

pub tree_again : TreesAreLines
unfolding Finishes
tree_again n letters good t rest few g counted =
    complete n good (root_region n ∷ []) (tree_letters n t) letters 0 1 rest few counted (t, [], sym (append-nil (tree_letters n t)), g, refl)
