-- The texts of components and of pairs of components.
use Rattle.std.proofs.Common.{◌≡◌, ℕ, zero, suc, ◌+◌, ◌<◌, ◌≤◌, List, [], ◌++◌, length, length-take, get_or, take, map, add-one, ap, sym, ◌∙◌, arith, refl, slice_index_or, nat_lt, cond}
use Rattle.std.proofs.lemmas.Bool.{lt-ltb, le-ltb}
use Rattle.std.proofs.lemmas.List.{get_or-take, get_or-map}
use Rattle.case_types.specs.declared.cases.Row.{Row}
use Rattle.case_types.specs.Arithmetic.Tables.{ends_at, no_ends}
use Rattle.case_types.specs.Energy.Printed.{ends_in}
use Rattle.case_words.specs.Names.{text_of}
use Rattle.log_laws.specs.declared.iv.Iv.{Iv}
use Rattle.log_laws.specs.Interval.{ends_of}
use Rattle.report_text.specs.Pieces.{texts_below}

-- the name in a row
pub name_at : (rows : List Row) (i : ℕ) (d : Row) → i < length rows
    → text_of (get_or rows i d).name ≡ slice_index_or (map (λ (r : Row). text_of r.name) rows) i []
name_at rows i d h = sym (get_or-map (λ (r : Row). text_of r.name) rows i d [] h)

-- the ends of an interval, and of one of the first n
pub ends_at-all : (vs : List Iv) (i : ℕ) (d : Iv) → i < length vs → ends_of (get_or vs i d) ≡ ends_at (map ends_of vs) i
ends_at-all vs i d h = sym (get_or-map ends_of vs i d no_ends h)

pub ends_at-first : (n : ℕ) (vs : List Iv) (i : ℕ) (d : Iv) → i < n → n ≤ length vs → ends_of (get_or vs i d) ≡ ends_at (ends_in n vs) i
ends_at-first n vs i d h k =
    ap ends_of (sym (get_or-take n vs i d h)) ∙ ends_at-all (take n vs) i d (simp length-take (omega (arith, h, k)))

-- one text more
pub texts_below-more : (n : ℕ) (f : ℕ → List ℕ) → texts_below n f ++ f n ≡ texts_below (n + 1) f
texts_below-more n f = ap (λ (m : ℕ). texts_below m f) (sym (add-one n))

-- the texts of later components: none up to i itself
pub later_texts-none : (n i : ℕ) (f : ℕ → List ℕ) → n ≤ i + 1 → [] ≡ texts_below n (λ (j : ℕ). cond (nat_lt i j) (f j) [])
later_texts-none zero i f h = refl
later_texts-none (suc n) i f h = rw (← later_texts-none n i f (omega (arith, h)), le-ltb i n (omega (arith, h))) refl

-- and one more of each that is later
pub later_texts-more : (j i : ℕ) (f : ℕ → List ℕ) → i < j
    → texts_below j (λ (k : ℕ). cond (nat_lt i k) (f k) []) ++ f j ≡ texts_below (j + 1) (λ (k : ℕ). cond (nat_lt i k) (f k) [])
later_texts-more j i f h =
    let all = λ (k : ℕ). cond (nat_lt i k) (f k) [] in
    let last : f j ≡ all j = rw (lt-ltb i j h) refl in
    ap (λ (t : List ℕ). texts_below j all ++ t) last ∙ texts_below-more j all
