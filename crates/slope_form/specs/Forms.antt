-- Slope forms over plain ends, and their arithmetic.
use Rattle.std.specs.Prelude.{ℕ, Option, Some, None, option_map, List, [], ◌∷◌, map, get_or, pos, ◌*ℤ◌}
use Rattle.log_laws.specs.Between.{Ends}
use Rattle.log_laws.specs.Whole.{floor_over, ceil_over}
use Rattle.log_laws.specs.declared.iv.Iv.{Iv}
use Rattle.log_laws.specs.Interval.{ends, ends_of}
use Rattle.log_laws.specs.declared.slope.Slope.{Slope}
use Rattle.slope_form.specs.Arithmetic.{capped, sum_of_ends, difference_of_ends, product_of_ends, quotient_of_ends, log_of_ends, both}

-- the value at the centre, the range, and the slopes of the free fractions 0, 1 and 2, and of the packing, 3
pub record Form : Type 0 where
  pub at : Ends
  pub over : Ends
  pub by : List Ends

abbrev pub form_of : Slope → Form
form_of s = record { at = ends_of s.at; over = ends_of s.over; by = map ends_of s.by }

abbrev pub form_if : Option Slope → Option Form
form_if s = option_map form_of s

abbrev pub slope_of : Form → ℕ → Ends
slope_of f j = get_or f.by j (ends (pos 0) (pos 0))

-- a list of intervals that is there
abbrev pub all_if : Option (List Iv) → Option (List Ends)
all_if vs = option_map (map ends_of) vs

-- four results, where all are there
abbrev pub four_of : Option Ends → Option Ends → Option Ends → Option Ends → Option (List Ends)
four_of None b c d = None
four_of (Some a) None c d = None
four_of (Some a) (Some b) None d = None
four_of (Some a) (Some b) (Some c) None = None
four_of (Some a) (Some b) (Some c) (Some d) = Some (a ∷ b ∷ c ∷ d ∷ [])

abbrev pub each : (ℕ → Option Ends) → Option (List Ends)
each h = four_of (h 0) (h 1) (h 2) (h 3)

abbrev pub form_from : Option Ends → Option Ends → Option (List Ends) → Option Form
form_from None over by = None
form_from (Some at) None by = None
form_from (Some at) (Some over) None = None
form_from (Some at) (Some over) (Some by) = Some (record { at = at; over = over; by = by })

-- ---- the operations
-- a number between the ends c, which doesn't change
abbrev pub constant_form : Ends → Form
constant_form c = let none = ends (pos 0) (pos 0) in record { at = c; over = c; by = none ∷ none ∷ none ∷ none ∷ [] }

-- sums and differences go part by part
unfoldable pub sum_form : Form → Form → Option Form
sum_form f g = form_from (sum_of_ends f.at g.at) (sum_of_ends f.over g.over) (each (λ j. sum_of_ends (slope_of f j) (slope_of g j)))

unfoldable pub difference_form : Form → Form → Option Form
difference_form f g =
    form_from (difference_of_ends f.at g.at) (difference_of_ends f.over g.over) (each (λ j. difference_of_ends (slope_of f j) (slope_of g j)))

-- the slope of f over the range of g, and the value of f times the slope of g
unfoldable pub product_form : Form → Form → Option Form
product_form f g =
    form_from (product_of_ends f.at g.at) (product_of_ends f.over g.over)
    (each (λ j. both sum_of_ends (product_of_ends (slope_of f j) g.over) (product_of_ends f.at (slope_of g j))))

-- the slope f of the dividend less the quotient's value times the slope g of the divisor, over the divisor's range
abbrev pub quotient_slope : Option Ends → Ends → Ends → Ends → Option Ends
quotient_slope at f g over =
    both quotient_of_ends (both difference_of_ends (Some f) (both product_of_ends at (Some g))) (Some over)

unfoldable pub quotient_form : Form → Form → Option Form
quotient_form f g =
    form_from (quotient_of_ends f.at g.at) (quotient_of_ends f.over g.over)
    (each (λ j. quotient_slope (quotient_of_ends f.at g.at) (slope_of f j) (slope_of g j) g.over))

-- with the slope of the logarithm: that of e over the range
unfoldable pub log_form : Form → Ends → Option Form
log_form f e =
    form_from (log_of_ends f.at) (log_of_ends f.over) (each (λ j. both product_of_ends (Some (slope_of f j)) (quotient_of_ends e f.over)))

-- ---- x log x, for x from a to b around m, in 2^-40
abbrev pub point_ends : ℕ → Ends
point_ends m = ends (pos m) (pos m)

-- e times x over m, for x from a to b: how x log (x/m) rises
unfoldable pub bend_of : ℕ → ℕ → ℕ → Ends → Option Ends
bend_of a b m e = capped (floor_over (e.lo *ℤ pos a) m) (ceil_over (e.hi *ℤ pos b) m)

-- the value at m, and the slope
unfoldable pub x_log_x_ends : ℕ → ℕ → ℕ → Ends → Option (Ends × Ends)
x_log_x_ends a b m e =
    let log = log_of_ends (point_ends m) in
    both (λ (at by : Ends). Some (at, by)) (both product_of_ends (Some (point_ends m)) log) (both sum_of_ends log (bend_of a b m e))

abbrev pub ends_of_two : Iv × Iv → Ends × Ends
ends_of_two p = (ends_of p.0, ends_of p.1)

abbrev pub two_if : Option (Iv × Iv) → Option (Ends × Ends)
two_if p = option_map ends_of_two p
