-- A line more.
use Rattle.std.proofs.Common.{◌≡◌, ℕ, List, [], ◌∷◌, ◌++◌, Some, refl}
use Rattle.cert_lines.specs.Heads.{Draft, blank, with_line}
use Rattle.cert_lines.specs.HeadTexts.{with_lines}
use Rattle.cert_lines.proofs.Exports.{bind_some, some_is}
use Rattle.cert_format.specs.Reading.{IsRead}

one_more : (d so_far after : Draft) (lines : List (List ℕ)) (line : List ℕ) → with_lines d lines ≡ Some so_far → with_line so_far line ≡ Some after → with_lines d (lines ++ line ∷ []) ≡ Some after
unfolding with_lines
one_more d so_far after [] line e f = rw (some_is d so_far e, f) refl
one_more d so_far after (first ∷ lines) line e f =
    let a = bind_some (with_line d first) (λ x. with_lines x lines) so_far e in
    rw a.1 (one_more a.0 so_far after lines line a.2 f)

pub read_on : (d after : Draft) (line : List ℕ) → IsRead d → with_line d line ≡ Some after → IsRead after
read_on d after line r e = (r.0 ++ line ∷ [], one_more blank d after r.0 line r.1 e)
