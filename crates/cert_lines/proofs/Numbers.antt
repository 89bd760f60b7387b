-- Reading numbers one after the other, as a loop does.
use Rattle.std.proofs.Common.{◌≡◌, ℕ, ◌+◌, ◌<◌, ◌≤◌, List, [], ◌∷◌, ◌++◌, length, get_or, drop, Option, Some, None, refl, sym, ap, ◌∙◌, append_assoc, ℤ}
use Rattle.std.proofs.lemmas.List.{append-nil, drop_more, drop_all}
use Rattle.cert_lines.specs.declared.lines.Range.{Range}
use Rattle.cert_lines.specs.Lines.{◌>>=◌, number_at, numbers_at}

-- what was read before, and what is still read
abbrev pub with_front : List ℤ → Option (List ℤ × List ℕ) → Option (List ℤ × List ℕ)
with_front front read = read >>= λ x. Some (front ++ x.0, x.1)

regroup : (front : List ℤ) (z : ℤ) (read : Option (List ℤ × List ℕ))
    → with_front front (read >>= λ x. Some (z ∷ x.0, x.1)) ≡ with_front (front ++ z ∷ []) read
regroup front z (Some x) = ap (λ (zs : List ℤ). Some (zs, x.1)) (sym (append_assoc front (z ∷ []) x.0))
regroup front z None = refl

pub goes_on : (front : List ℤ) (rs : List Range) (i : ℕ) (d : Range) (text : List ℕ) (z : ℤ) (after : List ℕ) (total : Option (List ℤ × List ℕ))
    → i < length rs → number_at (get_or rs i d) text ≡ Some (z, after)
    → with_front front (numbers_at (drop i rs) text) ≡ total → with_front (front ++ z ∷ []) (numbers_at (drop (i + 1) rs) after) ≡ total
unfolding numbers_at
goes_on front rs i d text z after total inside read so_far =
    let one : with_front front (numbers_at (drop i rs) text) ≡ with_front (front ++ z ∷ []) (numbers_at (drop (i + 1) rs) after) =
    rw (drop_more rs i d inside, read) (regroup front z (numbers_at (drop (i + 1) rs) after)) in
    sym one ∙ so_far

pub stops : (front : List ℤ) (rs : List Range) (i : ℕ) (d : Range) (text : List ℕ) (total : Option (List ℤ × List ℕ))
    → i < length rs → number_at (get_or rs i d) text ≡ None → with_front front (numbers_at (drop i rs) text) ≡ total → None ≡ total
unfolding numbers_at
stops front rs i d text total inside read so_far =
    let one : with_front front (numbers_at (drop i rs) text) ≡ None = rw (drop_more rs i d inside, read) refl in
    sym one ∙ so_far

pub is_done : (front : List ℤ) (rs : List Range) (text : List ℕ) (total : Option (List ℤ × List ℕ)) (i : ℕ)
    → length rs ≤ i → with_front front (numbers_at (drop i rs) text) ≡ total → Some (front, text) ≡ total
unfolding numbers_at
is_done front rs text total i end so_far =
    let one : with_front front (numbers_at (drop i rs) text) ≡ Some (front, text) =
    rw (drop_all i rs end) (ap (λ (zs : List ℤ). Some (zs, text)) (append-nil front)) in
    sym one ∙ so_far

pub nothing_yet : (read : Option (List ℤ × List ℕ)) → with_front [] read ≡ read
nothing_yet (Some x) = refl
nothing_yet None = refl
