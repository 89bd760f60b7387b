-- A byte of the line of letters.
use Rattle.std.proofs.Common.{◌≡◌, ℕ, ◌+◌, ◌≤◌, List, [], ◌∷◌, refl, sym, ◌∙◌, arith, Bool, true, false, ◌⊎◌, inl, inr, Option, Some, None}
use Rattle.std.specs.Prelude.{◌==◌, ◌&&◌}
use Rattle.std.proofs.lemmas.Bool.{eqb-true}
use Rattle.case_types.specs.Grid.Cells.{Region, Mark, Step, Ends, Halves, Visit}
use Rattle.cert_letters.specs.Lines.{LineEnd, judged, line_end}
use Rattle.cert_letters.specs.Readings.{Reading, is_whole, visit_of, next, told, told_step, told_visit, Within, LeafAt, Refused as NoLetter}
use Rattle.cert_letters.proofs.Exports.{letters_count}
use Rattle.cert_lines.specs.declared.faults.CertFault.TheVariants.{Tree}
use Rattle.cert_format.specs.declared.heads.Head.{Head}
use Rattle.cert_format.specs.declared.verdicts.Verdict.{Verdict}
use Rattle.cert_format.specs.declared.verdicts.Verdict.TheVariants.{BadLeaf, Refused}
use Rattle.cert_check.specs.Tests.{passes}
use Rattle.cert_check.specs.Judging.{verdict_behind_letters, verdict_at_end}
use Rattle.cert_check.specs.Checking.{place_in}

-- the verdict where these bytes follow in the line
abbrev pub in_letters : Head → Reading → ℕ → List ℕ → Verdict
in_letters h r at bytes = verdict_behind_letters h (line_end (passes h) r at bytes)

-- ---- the newline
pub closes : (h : Head) (r : Reading) (at b : ℕ) (bytes : List ℕ) → is_whole r ≡ true → b ≡ 10 → in_letters h r at (b ∷ bytes) ≡ verdict_at_end h [] bytes
unfolding line_end
closes h r at b bytes w e = rw (e, w) refl

pub goes_on : (r : Reading) (b : ℕ) (w : Bool) → w ≡ is_whole r → ((w ≡ true) × (b ≡ 10 → ⊥)) ⊎ (w ≡ false) → (is_whole r && b == 10) ≡ false
goes_on r b true e (inr f) = absurd cc
goes_on r b false e h = rw (← e) refl
goes_on r b true e (inl h) = rw (← e) (by_case (b == 10) refl)
  where
    by_case : (x : Bool) → (b == 10) ≡ x → x ≡ false
    by_case true k = absurd (h.1 (eqb-true b 10 k))
    by_case false k = refl

-- ---- a letter
abbrev judged_so : Head → Option Visit → Reading → ℕ → LineEnd → Verdict
judged_so h o after at rest = verdict_behind_letters h (judged (passes h) o after.leaves at rest)

one : (h : Head) (r : Reading) (at b : ℕ) (bytes : List ℕ) → (is_whole r && b == 10) ≡ false
    → in_letters h r at (b ∷ bytes) ≡ judged_so h (visit_of r b) (next r b) at (line_end (passes h) (next r b) (at + 1) bytes)
unfolding line_end
one h r at b bytes further = rw further refl

inner_step : (h : Head) (c : Region) (s : Step) (after : Reading) (at : ℕ) (rest : LineEnd) → told_step c s after ≡ Within
    → judged_so h (Some (record { region = c; step = s })) after at rest ≡ verdict_behind_letters h rest
inner_step h c (Ends mark) after at rest e = absurd cc
inner_step h c (Halves edge) after at rest e = refl

inner_visit : (h : Head) (o : Option Visit) (after : Reading) (at : ℕ) (rest : LineEnd) → told_visit o after ≡ Within → judged_so h o after at rest ≡ verdict_behind_letters h rest
inner_visit h None after at rest e = absurd cc
inner_visit h (Some v) after at rest e = inner_step h v.region v.step after at rest e

pub inner : (h : Head) (r : Reading) (at b : ℕ) (bytes : List ℕ) → (is_whole r && b == 10) ≡ false → told r b ≡ Within
    → in_letters h r at (b ∷ bytes) ≡ in_letters h (next r b) (at + 1) bytes
unfolding told
inner h r at b bytes further t = rw (one h r at b bytes further) (inner_visit h (visit_of r b) (next r b) at (line_end (passes h) (next r b) (at + 1) bytes) t)

leaf_same : (c d : Region) (m n : Mark) (i j : ℕ) (k l : Bool) → LeafAt c m i k ≡ LeafAt d n j l → (c ≡ d) × (m ≡ n) × (i ≡ j)
leaf_same c d m n i j k l e = (cc, cc, cc)

-- a leaf that passes, or doesn't
abbrev leaf_verdict : Bool → ℕ → Verdict → Verdict
leaf_verdict true index rest = rest
leaf_verdict false index rest = BadLeaf index

by_test : (h : Head) (x : Bool) (c : Region) (m : Mark) (index at : ℕ) (rest : LineEnd) → passes h c m ≡ x
    → verdict_behind_letters h (judged (passes h) (Some (record { region = c; step = Ends m })) index at rest) ≡ leaf_verdict x index (verdict_behind_letters h rest)
by_test h true c m index at rest p = rw p refl
by_test h false c m index at rest p = rw p refl

leaf_step : (h : Head) (x : Bool) (d : Region) (s : Step) (c : Region) (m : Mark) (index at : ℕ) (last : Bool) (after : Reading) (rest : LineEnd) → told_step d s after ≡ LeafAt c m index last
    → passes h c m ≡ x → judged_so h (Some (record { region = d; step = s })) after at rest ≡ leaf_verdict x index (verdict_behind_letters h rest)
leaf_step h x d (Halves edge) c m index at last after rest e p = absurd cc
leaf_step h x d (Ends n) c m index at last after rest e p =
    let same = leaf_same d c n m after.leaves index (is_whole after) last e in
    rw (same.0, same.1, same.2) (by_test h x c m index at rest p)

leaf_visit : (h : Head) (x : Bool) (o : Option Visit) (c : Region) (m : Mark) (index at : ℕ) (last : Bool) (after : Reading) (rest : LineEnd) → told_visit o after ≡ LeafAt c m index last
    → passes h c m ≡ x → judged_so h o after at rest ≡ leaf_verdict x index (verdict_behind_letters h rest)
leaf_visit h x None c m index at last after rest e p = absurd cc
leaf_visit h x (Some v) c m index at last after rest e p = leaf_step h x v.region v.step c m index at last after rest e p

pub leaf : (h : Head) (x : Bool) (r : Reading) (at b : ℕ) (bytes : List ℕ) (c : Region) (m : Mark) (index : ℕ) (last : Bool) → (is_whole r && b == 10) ≡ false → told r b ≡ LeafAt c m index last
    → passes h c m ≡ x → in_letters h r at (b ∷ bytes) ≡ leaf_verdict x index (in_letters h (next r b) (at + 1) bytes)
unfolding told
leaf h x r at b bytes c m index last further t p =
    rw (one h r at b bytes further) (leaf_visit h x (visit_of r b) c m index at last (next r b) (line_end (passes h) (next r b) (at + 1) bytes) t p)

bad_step : (c : Region) (s : Step) (after : Reading) → told_step c s after ≡ NoLetter → ⊥
bad_step c (Ends mark) after e = absurd cc
bad_step c (Halves edge) after e = absurd cc

bad_visit : (h : Head) (o : Option Visit) (after : Reading) (at : ℕ) (rest : LineEnd) → told_visit o after ≡ NoLetter → judged_so h o after at rest ≡ Refused (Tree at)
bad_visit h None after at rest e = refl
bad_visit h (Some v) after at rest e = absurd (bad_step v.region v.step after e)

pub bad : (h : Head) (r : Reading) (at b : ℕ) (bytes : List ℕ) → (is_whole r && b == 10) ≡ false → told r b ≡ NoLetter → in_letters h r at (b ∷ bytes) ≡ Refused (Tree at)
unfolding told
bad h r at b bytes further t = rw (one h r at b bytes further) (bad_visit h (visit_of r b) (next r b) at (line_end (passes h) (next r b) (at + 1) bytes) t)

-- ---- how many are left
abbrev Counted : Reading → ℕ → Type 0
Counted r b = (next r b).left + 1 ≡ r.left

counted : (r : Reading) (b : ℕ) → (told r b ≡ NoLetter → ⊥) → Counted r b
unfolding told
counted r b further = by_visit_of (visit_of r b) refl further
  where
    by_visit_of : (o : Option Visit) → visit_of r b ≡ o → (told_visit o (next r b) ≡ NoLetter → ⊥) → Counted r b
    by_visit_of None e further = absurd (further refl)
    by_visit_of (Some v) e further = letters_count r b v e

refused_stays : (r : Reading) (b : ℕ) → visit_of r b ≡ None → (next r b).left ≤ r.left
unfolding next
refused_stays r b e = rw e (omega arith)

pub left_stays : (r : Reading) (b : ℕ) → (next r b).left ≤ r.left
left_stays r b = by_visit_of (visit_of r b) refl
  where
    by_visit_of : (o : Option Visit) → visit_of r b ≡ o → (next r b).left ≤ r.left
    by_visit_of None e = refused_stays r b e
    by_visit_of (Some v) e = let k = letters_count r b v e in omega (arith, k)

within_is_no : Within ≡ NoLetter → ⊥
within_is_no e = cc

leaf_is_no : (c : Region) (m : Mark) (i : ℕ) (l : Bool) → LeafAt c m i l ≡ NoLetter → ⊥
leaf_is_no c m i l e = cc

next_place : (h : Head) (r : Reading) (b : ℕ) → r.left ≤ h.letters → Counted r b → place_in h r + 1 ≡ place_in h (next r b)
next_place h r b few k = omega (arith, few, k)

-- with the places as they are counted
pub inner_at : (h : Head) (r : Reading) (b : ℕ) (bytes : List ℕ) → r.left ≤ h.letters → (is_whole r && b == 10) ≡ false → told r b ≡ Within
    → in_letters h r (place_in h r) (b ∷ bytes) ≡ in_letters h (next r b) (place_in h (next r b)) bytes
inner_at h r b bytes few further t =
    let k = counted r b (λ e. within_is_no (sym t ∙ e)) in
    rw (← next_place h r b few k) (inner h r (place_in h r) b bytes further t)

pub leaf_at : (h : Head) (r : Reading) (b : ℕ) (bytes : List ℕ) (c : Region) (m : Mark) (index : ℕ) (last : Bool) → r.left ≤ h.letters → (is_whole r && b == 10) ≡ false
    → told r b ≡ LeafAt c m index last → passes h c m ≡ true → in_letters h r (place_in h r) (b ∷ bytes) ≡ in_letters h (next r b) (place_in h (next r b)) bytes
leaf_at h r b bytes c m index last few further t p =
    let k = counted r b (λ e. leaf_is_no c m index last (sym t ∙ e)) in
    rw (← next_place h r b few k) (leaf h true r (place_in h r) b bytes c m index last further t p)

pub leaf_fails : (h : Head) (r : Reading) (at b : ℕ) (bytes : List ℕ) (c : Region) (m : Mark) (index : ℕ) (last : Bool) → (is_whole r && b == 10) ≡ false
    → told r b ≡ LeafAt c m index last → passes h c m ≡ false → in_letters h r at (b ∷ bytes) ≡ BadLeaf index
leaf_fails h r at b bytes c m index last further t p = leaf h false r at b bytes c m index last further t p
