-- How long the certificate of an answer is.
use Rattle.std.proofs.Common.{◌≡◌, ℕ, ◌*◌, ◌≤◌, List, [], ◌∷◌, ◌++◌, length, map, refl, ap, ◌∙◌, arith, Option, Some, None}
use Rattle.std.specs.Prelude.{codes}
use Rattle.std.proofs.lemmas.List.{length-append, length-map}
use Rattle.cert_format.specs.declared.heads.Head.{Head}
use Rattle.cert_format.specs.Heads.{IsHead, head_text, text_with, line_of, shape_of, says}
use Rattle.cert_format.specs.Writing.{IsSized}
use Rattle.cert_format.proofs.Exports.{heads_are_read_back}
use Rattle.cert_lines.specs.Heads.{Draft, blank, with_line}
use Rattle.cert_lines.specs.HeadTexts.{lines_text, with_lines}
use Rattle.cert_lines.specs.Laws.{IsShort}
use Rattle.cert_lines.specs.Lines.{◌>>=◌}
use Rattle.cert_lines.specs.Places.{places}
use Rattle.cert_lines.proofs.Exports.{head_long, is_line}

lines_short : (d after : Draft) (lines : List (List ℕ)) → with_lines d lines ≡ Some after → length (lines_text lines) ≤ 401 * length lines
unfolding with_lines lines_text
lines_short d after [] e = omega arith
lines_short d after (line ∷ lines) e = by_line (λ x h. lines_short x after lines h) (with_line d line) refl e
  where
    by_line : ((x : Draft) → with_lines x lines ≡ Some after → length (lines_text lines) ≤ 401 * length lines) → (o : Option Draft) → with_line d line ≡ o
        → (o >>= λ x. with_lines x lines) ≡ Some after → length (line ++ 10 ∷ lines_text lines) ≤ 401 * length (line ∷ lines)
    by_line again None h e = absurd cc
    by_line again (Some x) h e =
        let short : IsShort line = is_line d line x h in
        let less = short.short in
        omega (arith, again x e, less, length-append line (10 ∷ lines_text lines))

pub head_short : (h : Head) → IsHead h → IsSized h → length (head_text h) ≤ 401 * 37
head_short h is sized =
    let back = heads_are_read_back h is sized in
    let long = lines_short blank back.0 (map (line_of h) (places (shape_of h))) back.1.lines in
    let few = (head_long back.0 (map (line_of h) (places (shape_of h))) back.1.lines).most in
    let count : length back.0.said ≡ length (places (shape_of h)) = ap length back.1.said.said ∙ length-map (places (shape_of h)) (says h) in
    omega (arith, long, few, count, length-map (places (shape_of h)) (line_of h))

pub text_short : (h : Head) (letters : List ℕ) → IsHead h → IsSized h → length letters ≤ 20000001 → length (text_with h letters) ≤ 67108864
text_short h letters is sized few =
    let rest : List ℕ = 10 ∷ (codes "end" ++ 10 ∷ []) in
    omega (arith, head_short h is sized, few, length-append (head_text h) (letters ++ rest), length-append letters rest)
