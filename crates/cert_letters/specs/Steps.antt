-- What a byte stands for in a tree of halvings.
use Rattle.std.specs.Prelude.{ℕ, ◌+◌, ◌-◌, ◌≤◌, ◌<◌, ◌≡◌, ◌⊎◌, ◌==◌, ◌&&◌, nat_le, nat_lt, Bool, if◌then◌else◌, Option, Some, None}
use Rattle.case_types.specs.Grid.Cells.{Region, edge_length, packing_edge, Mark, Misses, Plain, Sloped, Step, Ends, Halves, letter_of}
use Rattle.cert_letters.specs.declared.letters.LeafHow.{LeafHow}
use Rattle.cert_letters.specs.declared.letters.LeafHow.TheVariants as how
use Rattle.cert_letters.specs.declared.letters.Letter.{Letter}
use Rattle.cert_letters.specs.declared.letters.Letter.TheVariants as letter

-- the edge is that of a free fraction of n components, or the packing
abbrev pub IsEdgeOf : ℕ → ℕ → Type 0
IsEdgeOf n edge = (edge < n - 1) ⊎ (edge ≡ packing_edge)

-- the step that a byte is the letter of, with n components: none where it is no letter, or names no edge of them
unfoldable pub step_of : ℕ → ℕ → Option Step
step_of n byte =
    if byte == letter_of (Ends Misses) then Some (Ends Misses)
    else (if byte == letter_of (Ends Plain) then Some (Ends Plain)
    else (if byte == letter_of (Ends Sloped) then Some (Ends Sloped)
    else (if byte == letter_of (Halves packing_edge) then Some (Halves packing_edge)
    else (if nat_le 49 byte && nat_lt byte (48 + n) then Some (Halves (byte - 49))
    else None))))

-- an edge of one unit can't be halved
abbrev pub can_halve : Region → ℕ → Bool
can_halve r edge = nat_le 2 (edge_length r edge)

-- ---- as the code has it
abbrev pub mark_of : LeafHow → Mark
mark_of how.Misses = Misses
mark_of how.Plain = Plain
mark_of how.Sloped = Sloped

abbrev pub step_by : Letter → Step
step_by (letter.Leaf h) = Ends (mark_of h)
step_by (letter.Edge edge) = Halves edge

-- an edge is one of four
abbrev pub HasEdge : Letter → Type 0
HasEdge (letter.Leaf h) = Unit {0}
HasEdge (letter.Edge edge) = edge ≤ packing_edge
