-- What holds of all heads.
use Rattle.std.specs.Prelude.{ℕ, ◌==◌, List, [], ◌++◌, take, length, Bool, true, not, Some, None, pos, slice_index_or, ◌≡◌, ◌≤◌, ◌<◌}
use Rattle.std.specs.List.{list_all}
use Rattle.cert_lines.specs.Lines.{Said, Fits, IsIn}
use Rattle.cert_lines.specs.Places.{place_at}
use Rattle.cert_lines.specs.Forms.{is_named, ranges_of}
use Rattle.cert_lines.specs.declared.places.Place.{Place}
use Rattle.cert_lines.specs.declared.places.Place.TheVariants.{Version, Count, Component, Split, Letters}
use Rattle.cert_lines.specs.declared.places.Shape.{Shape}
use Rattle.log_laws.specs.Sums.{sum_below}
use Rattle.cert_lines.specs.Indices.{number_on}
use Rattle.cert_lines.specs.Heads.{Draft, blank, next_place, with_line, number_in, up_to, suits}
use Rattle.cert_lines.specs.HeadTexts.{with_lines, lines_text, Says, head_end, Whole}

-- what is read is what is written: lines can stand exactly where they are the texts of what they say
abbrev pub HeadsAreTexts : Type 0
HeadsAreTexts =
    ((d after : Draft) (lines : List (List ℕ)) → with_lines d lines ≡ Some after → (said : List Said) × Says d said lines after × (after.said ≡ d.said ++ said))
    × ((d after : Draft) (said : List Said) (lines : List (List ℕ)) → Says d said lines after → with_lines d lines ≡ Some after)
    × ((d after other : Draft) (said others : List Said) (lines : List (List ℕ)) → Says d said lines after → Says d others lines other → (said ≡ others) × (after ≡ other))

-- ---- what a whole head has
-- the line at an index is the one that stands there in the end, and it fits
pub record FitsAt (d : Draft) (i : ℕ) (s : Said) : Type 0 where
  pub place : Place
  pub stands : place_at d.shape i ≡ Some place
  pub fits : Fits (is_named place) (ranges_of d.shape.n place) s

-- each line that was read stands at its place of the final shape, and fits it
abbrev pub LinesFit : Type 0
LinesFit =
    (d : Draft) (lines : List (List ℕ)) → with_lines blank lines ≡ Some d → (i : ℕ) → i < length d.said →
    FitsAt d i (slice_index_or d.said i (record { name = []; numbers = [] }))

-- each number of a line lies in the range that its place has for it
abbrev pub NumbersFit : Type 0
NumbersFit =
    (d : Draft) (lines : List (List ℕ)) (place : Place) (i k : ℕ) → with_lines blank lines ≡ Some d → i < length d.said → place_at d.shape i ≡ Some place →
    k < length (ranges_of d.shape.n place) →
    IsIn (slice_index_or (ranges_of d.shape.n place) k (record { low = pos 0; high = pos 0 }))
    (number_in (slice_index_or d.said i (record { name = []; numbers = [] })) k)

-- what the shape has of a line that says it
pub record IsStated (s : Shape) (place : Place) (x : Said) : Type 0 where
  pub version : place ≡ Version → s.version ≡ up_to 4 (number_in x 0)
  pub count : place ≡ Count → s.n ≡ up_to 4 (number_in x 0)
  pub phases : place ≡ Split → s.phases ≡ up_to 4 (number_in x 0)
  pub letters : place ≡ Letters → s.letters ≡ up_to 60000000 (number_in x 0)

-- the line at an index suited the lines before it, and what it says of the shape stayed
pub record SuitedAt (d : Draft) (place : Place) (i : ℕ) : Type 0 where
  pub before : Draft
  pub said : before.said ≡ take i d.said
  pub suits : suits before place (slice_index_or d.said i (record { name = []; numbers = [] })) ≡ true
  pub stated : IsStated d.shape place (slice_index_or d.said i (record { name = []; numbers = [] }))

-- each line suited the lines before it
abbrev pub LinesSuit : Type 0
LinesSuit = (d : Draft) (lines : List (List ℕ)) (place : Place) (i : ℕ) → with_lines blank lines ≡ Some d → i < length d.said → place_at d.shape i ≡ Some place → SuitedAt d place i

-- the parts of the feed of all components are at most 2 ^ 20
abbrev pub FeedFits : Type 0
FeedFits =
    (d : Draft) (lines : List (List ℕ)) → with_lines blank lines ≡ Some d → next_place d ≡ None →
    sum_below d.shape.n (λ i. up_to 1048576 (number_on d (Component i) 3)) ≤ 1048576

-- the line of each place of a whole head was read
abbrev pub WholeHeadsHaveAll : Type 0
WholeHeadsHaveAll =
    (d : Draft) (lines : List (List ℕ)) (place : Place) (i : ℕ) → with_lines blank lines ≡ Some d → next_place d ≡ None → place_at d.shape i ≡ Some place → i < length d.said

-- a head is read at the front of a text exactly where its lines stand there
abbrev pub HeadsAreRead : Type 0
HeadsAreRead =
    ((text : List ℕ) (d : Draft) (rest : List ℕ) → head_end blank [] text ≡ Whole d rest →
    (lines : List (List ℕ)) × (with_lines blank lines ≡ Some d) × (next_place d ≡ None) × (text ≡ lines_text lines ++ rest))
    × ((lines : List (List ℕ)) (d : Draft) (rest : List ℕ) → with_lines blank lines ≡ Some d → next_place d ≡ None →
    head_end blank [] (lines_text lines ++ rest) ≡ Whole d rest)

-- ---- sizes
abbrev pub is_one_line : List ℕ → Bool
is_one_line bytes = list_all (λ b. not (b == 10)) bytes

-- a line that can stand has at most 400 bytes and no newline
pub record IsShort (line : List ℕ) : Type 0 where
  pub unbroken : is_one_line line ≡ true
  pub short : length line ≤ 400

-- each line of a head is short, and a head has at most 37 lines
abbrev pub LinesAreShort : Type 0
LinesAreShort =
    ((d after : Draft) (line : List ℕ) → with_line d line ≡ Some after → IsShort line)
    × ((d : Draft) (lines : List (List ℕ)) → with_lines blank lines ≡ Some d → length d.said ≤ 37)
