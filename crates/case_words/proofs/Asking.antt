-- What is asked, key by key, and what is kept of it.
use Rattle.std.proofs.Common.{◌≡◌, ℕ, ◌≤◌, List, true, refl, ap, ◌∙◌}
use Rattle.std.specs.Prelude.{Option, Some, None, Result, Err, Ok, IfSome, nat_le, unwrap_or}
use Rattle.std.proofs.lemmas.Bool.{and_parts, leb-true}
use Rattle.case_types.specs.declared.cases.Edition.{Edition}
use Rattle.case_types.specs.declared.cases.Edition.TheVariants.{Y1976}
use Rattle.case_words.specs.declared.keys.Key.TheVariants.{T, P, Lo, Hi, Width, Z, Names, Tol, Budget}
use Rattle.case_words.specs.declared.boundaries.By.{By}
use Rattle.case_words.specs.declared.boundaries.Side.{Side}
use Rattle.case_words.specs.declared.faults.WordFault.{WordFault}
use Rattle.case_words.specs.declared.faults.WordFault.TheVariants.{Missing}
use Rattle.case_words.specs.Answers.{◌>>=◌}
use Rattle.case_words.specs.Items.{is_within}
use Rattle.case_words.specs.Jobs.{Asked, Gathered, asked_at, asked_of, fixed_of, asked_there, edge_of}

-- ---- the first key that didn't stand
pub asked-without_t : (g : Gathered) → g.t ≡ None → asked_of g ≡ Err (Missing T)
unfolding asked_of
asked-without_t g t = rw t refl

pub asked-without_p : (g : Gathered) (t : ℕ) → g.t ≡ Some t → g.p ≡ None → asked_of g ≡ Err (Missing P)
unfolding asked_of
asked-without_p g t is_t p = rw (is_t, p) refl

pub asked-there : (g : Gathered) (t p : ℕ) → g.t ≡ Some t → g.p ≡ Some p → asked_of g ≡ asked_at t p g
unfolding asked_of
asked-there g t p is_t is_p = rw (is_t, is_p) refl

pub asked-without_z : (g : Gathered) (t p : ℕ) → g.z ≡ None → asked_at t p g ≡ Err (Missing Z)
unfolding asked_at
asked-without_z g t p z = rw z refl

pub asked-without_names : (g : Gathered) (t p : ℕ) (z : List ℕ) → g.z ≡ Some z → g.names ≡ None → asked_at t p g ≡ Err (Missing Names)
unfolding asked_at
asked-without_names g t p z is_z names = rw (is_z, names) refl

pub asked-without_tol : (g : Gathered) (t p : ℕ) (z : List ℕ) (names : List (List ℕ)) → g.z ≡ Some z → g.names ≡ Some names → g.tol ≡ None
    → asked_at t p g ≡ Err (Missing Tol)
unfolding asked_at
asked-without_tol g t p z names is_z is_names tol = rw (is_z, is_names, tol) refl

pub asked-without_budget : (g : Gathered) (t p : ℕ) (z : List ℕ) (names : List (List ℕ)) (tol : ℕ) → g.z ≡ Some z → g.names ≡ Some names
    → g.tol ≡ Some tol → g.budget ≡ None → asked_at t p g ≡ Err (Missing Budget)
unfolding asked_at
asked-without_budget g t p z names tol is_z is_names is_tol budget = rw (is_z, is_names, is_tol, budget) refl

pub asked-whole : (g : Gathered) (t p : ℕ) (z : List ℕ) (names : List (List ℕ)) (tol budget : ℕ) (edition : Edition) → g.z ≡ Some z
    → g.names ≡ Some names → g.tol ≡ Some tol → g.budget ≡ Some budget → edition ≡ unwrap_or g.edition Y1976
    → asked_at t p g ≡ Ok (record { t = t; p = p; z = z; names = names; tol = tol; budget = budget; edition = edition })
unfolding asked_at
asked-whole g t p z names tol budget edition is_z is_names is_tol is_budget is_edition = rw (is_z, is_names, is_tol, is_budget, is_edition) refl

-- ---- a search for a phase boundary, likewise
pub edge-without_fixed : (by : By) (side : Side) (g : Gathered) (fault : WordFault) → fixed_of by g ≡ Err fault → edge_of by side g ≡ Err fault
unfolding edge_of
edge-without_fixed by side g fault e = rw e refl

pub edge-without_lo : (by : By) (side : Side) (g : Gathered) (fixed : ℕ) → fixed_of by g ≡ Ok fixed → g.lo ≡ None
    → edge_of by side g ≡ Err (Missing Lo)
unfolding edge_of
edge-without_lo by side g fixed e lo = rw (e, lo) refl

pub edge-without_hi : (by : By) (side : Side) (g : Gathered) (fixed lo : ℕ) → fixed_of by g ≡ Ok fixed → g.lo ≡ Some lo → g.hi ≡ None
    → edge_of by side g ≡ Err (Missing Hi)
unfolding edge_of
edge-without_hi by side g fixed lo e is_lo hi = rw (e, is_lo, hi) refl

pub edge-without_width : (by : By) (side : Side) (g : Gathered) (fixed lo hi : ℕ) → fixed_of by g ≡ Ok fixed → g.lo ≡ Some lo → g.hi ≡ Some hi
    → g.width ≡ None → edge_of by side g ≡ Err (Missing Width)
unfolding edge_of
edge-without_width by side g fixed lo hi e is_lo is_hi width = rw (e, is_lo, is_hi, width) refl

pub edge-there : (by : By) (side : Side) (g : Gathered) (fixed lo hi width : ℕ) (base : Result Asked WordFault) → fixed_of by g ≡ Ok fixed
    → g.lo ≡ Some lo → g.hi ≡ Some hi → g.width ≡ Some width → asked_there by fixed lo g ≡ base
    → edge_of by side g ≡ (base >>= (λ asked. Ok (record { base = asked; by = by; side = side; lo = lo; hi = hi; width = width })))
unfolding edge_of
edge-there by side g fixed lo hi width base e is_lo is_hi is_width is_base =
    let there : edge_of by side g ≡ (asked_there by fixed lo g >>= (λ asked. Ok (record { base = asked; by = by; side = side; lo = lo; hi = hi; width = width })))
    = rw (e, is_lo, is_hi, is_width) refl in
    there ∙ ap (λ (r : Result Asked WordFault). r >>= (λ asked. Ok (record { base = asked; by = by; side = side; lo = lo; hi = hi; width = width }))) is_base

-- ---- what is kept of what there is
pub some-kept : {X : Type 0} (o : Option X) (x : X) (Q : X → Type 0) → o ≡ Some x → IfSome o Q → Q x
some-kept o x Q is kept = rw is at kept

pub is_within-low : (low high n : ℕ) → is_within low high n ≡ true → low ≤ n
is_within-low low high n e = leb-true low n (and_parts (nat_le low n) (nat_le n high) e).0

pub is_within-high : (low high n : ℕ) → is_within low high n ≡ true → n ≤ high
is_within-high low high n e = leb-true n high (and_parts (nat_le low n) (nat_le n high) e).1
