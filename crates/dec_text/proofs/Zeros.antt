-- Zeros before the digits of a number.
use Rattle.std.proofs.Common.{◌≡◌, ◌+◌, ◌-◌, ◌≤◌, ◌<◌, ◌^◌, ◌++◌, ◌∷◌, [], length, replicate, arith, ap, ◌∙◌, sym, ℕ, List, append-nil, append_assoc, refl}
use Rattle.std.specs.Fmt.{decimal}
use Rattle.std.proofs.lemmas.Fmt.{length-decimal-le}
use Rattle.std.proofs.lemmas.List.{length-append, length-replicate, replicate_more}
use Rattle.dec_text.specs.Printed.{filled_decimal}
use Rattle.std.proofs.Math.Nat.{pow-le-pow_right}

-- a number below a power of ten has no more digits
pub decimal-short : (n places : ℕ) → 1 ≤ places → places ≤ 6 → n < 10 ^ places → length (decimal n) ≤ places
decimal-short n places some few fits =
    let ten : 0 < 10 = omega arith in
    let small : n < 2 ^ 64 = omega (arith, fits, pow-le-pow_right {n = 10} ten {i = places} {j = 6} few) in
    length-decimal-le places n (omega arith) fits small

-- no zero yet
pub zeros-none : (text : List ℕ) (len : ℕ) → text ≡ text ++ replicate (len - len) 48
zeros-none text len =
    let none : len - len ≡ 0 = omega arith in
    rw (none, append-nil text) refl

-- one zero more
pub zeros-more : (text longer start : List ℕ) (i len : ℕ) → len ≤ i → text ≡ start ++ replicate (i - len) 48 → longer ≡ text ++ 48 ∷ []
    → longer ≡ start ++ replicate (i + 1 - len) 48
zeros-more text longer start i len from so_far more =
    let count : i + 1 - len ≡ i - len + 1 = omega arith in
    more ∙ ap (λ (t : List ℕ). t ++ 48 ∷ []) so_far ∙ append_assoc start (replicate (i - len) 48) (48 ∷ [])
    ∙ ap (λ (t : List ℕ). start ++ t) (replicate_more (i - len) 48 ∙ ap (λ (k : ℕ). replicate k 48) (sym count))

-- how long the text is with them
pub length-zeros : (text start : List ℕ) (k : ℕ) → text ≡ start ++ replicate k 48 → length start ≤ 42 → k ≤ 6 → length text ≤ 48
length-zeros text start k is short few =
    omega (arith, ap length is ∙ length-append start (replicate k 48), length-replicate {A = ℕ} k 48)

-- the digits after them
pub filled-at_end : (text start whole digits : List ℕ) (i places n : ℕ) → digits ≡ decimal n → i ≡ places
    → text ≡ start ++ replicate (i - length digits) 48 → whole ≡ text ++ digits → whole ≡ start ++ filled_decimal places n
filled-at_end text start whole digits i places n d end so_far more =
    more
    ∙ ap (λ (t : List ℕ). t ++ digits) so_far
    ∙ append_assoc start (replicate (i - length digits) 48) digits
    ∙ ap (λ (j : ℕ). start ++ (replicate (j - length digits) 48 ++ digits)) end
    ∙ ap (λ (ds : List ℕ). start ++ (replicate (places - length ds) 48 ++ ds)) d
