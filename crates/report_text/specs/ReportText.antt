-- The text of a report, for any number of components and of phases. Components count from 0 here.
use Rattle.std.specs.Prelude.{ℕ, ◌+◌, ◌*◌, ◌^◌, ◌==◌, nat_le, nat_lt, cond, pos, List, [], ◌∷◌, ◌++◌, codes, map, length, slice_index, slice_index_or}
use Rattle.std.specs.List.{position_or_len}
use Rattle.std.specs.Fmt.{decimal, signed_decimal}
use Rattle.case_types.specs.declared.cases.Case.{Case}
use Rattle.case_types.specs.declared.cases.Row.{Row}
use Rattle.case_types.specs.declared.phases.Phase.{Phase}
use Rattle.case_types.specs.declared.planes.Plane.{Plane}
use Rattle.case_types.specs.declared.answers.Answer.{Answer}
use Rattle.case_types.specs.Energy.Instances.{Enclosures, pair_place}
use Rattle.case_types.specs.Arithmetic.Tables.{ends_at}
use Rattle.dec_text.specs.Printed.{fixed_text}
use Rattle.log_laws.specs.Sums.{sum_below}
use Rattle.pr_params.specs.declared.numbers.Params.{Params}
use Rattle.case_types.specs.Energy.Printed.{enclosures_in}
use Rattle.case_words.specs.Names.{text_of}
use Rattle.component_table.specs.declared.cases.Picked.{Picked}
use Rattle.cert_format.specs.Writing.{certificate_text}
use Rattle.report_text.specs.declared.ends.End.{End}
use Rattle.report_text.specs.declared.ends.End.TheVariants as end
use Rattle.report_text.specs.Pieces.{texts_below, line, ends_line, millionths_text, outcome_text}
use Rattle.report_text.specs.Joules.{millijoules}
use Rattle.report_text.specs.RefusalText.{word_fault_text, table_fault_text, case_fault_text, unread_text, too_long_text}
use Rattle.report_text.specs.VerdictText.{verdict_text}
use Rattle.report_text.specs.EdgeText.{edge_text}

-- the name of a component
abbrev pub name_text : Case → ℕ → List ℕ
name_text c i = slice_index_or (map (λ (r : Row). text_of r.name) c.rows) i []

-- temperature in K with three places, pressure in Pa, tolerance
abbrev pub conditions_text : Case → ℕ → List ℕ
conditions_text c tol =
    codes "T=" ++ fixed_text (pos c.t) 3 ++ codes " P=" ++ decimal c.p ++ line (codes " tol=") (decimal tol)

-- liquid from a packing of 0.2531 on
abbrev pub state_text : ℕ → List ℕ
state_text packing = cond (nat_le (2531 * 2 ^ 40) (10000 * packing)) (codes " liquid") (codes " vapour")

-- the part of the name at an index of the words: that of its component, or 0 where it isn't live
abbrev pub part_of : List ℕ → List ℕ → ℕ → ℕ
part_of live parts i =
    let at = position_or_len (λ j. j == i) live in
    cond (nat_lt at (length live)) (slice_index parts at) 0

-- how many parts the live components have together
abbrev pub parts_of : Picked → List ℕ → ℕ
parts_of picked parts = sum_below picked.case.n (slice_index parts)

-- the name at an index of the words, its part, and its mole fraction; of a phase without live parts, which no division has, that is 0
abbrev pub part_text : Picked → List ℕ → ℕ → List ℕ
part_text picked parts i =
    let part = part_of picked.live.items parts i in
    codes "part " ++ slice_index_or (map text_of picked.names.items) i [] ++ codes " " ++ decimal part
    ++ line (codes " x=") (millionths_text part (parts_of picked parts))

-- phase k, counting from 1, with its share of the sum and the parts of all names of the words
abbrev pub phase_text : Picked → ℕ → ℕ → Phase → List ℕ
phase_text picked sum k f =
    codes "phase " ++ decimal k ++ state_text f.packing ++ codes " packing=" ++ decimal f.packing
    ++ line (codes " share=") (millionths_text (parts_of picked f.parts) sum)
    ++ texts_below (length picked.names.items) (part_text picked f.parts)

-- the phases, the first of which is phase k
abbrev pub phases_text : Picked → ℕ → ℕ → List Phase → List ℕ
phases_text picked sum k [] = []
phases_text picked sum k (f ∷ fs) = phase_text picked sum k f ++ phases_text picked sum (k + 1) fs

-- the split: its sum, how many phases, and each phase
abbrev pub split_text : Picked → ℕ → List Phase → List ℕ
split_text picked sum phases =
    codes "sum=" ++ decimal sum ++ line (codes " phases=") (decimal (length phases)) ++ phases_text picked sum 1 phases

-- the potential of a component
abbrev pub potential_text : Plane → ℕ → List ℕ
potential_text plane i = codes " " ++ signed_decimal (slice_index_or plane.lam i (pos 0))

-- the potentials of the plane
abbrev pub plane_text : Case → Answer → List ℕ
plane_text c a = line (codes "plane") (texts_below c.n (potential_text a.plane))

-- the printed pair of a component
abbrev pub temperature_text : Case → Enclosures → ℕ → List ℕ
temperature_text c x i = codes "t " ++ name_text c i ++ ends_line (codes " ") (ends_at x.temperature_roots i)

-- the printed pair of two components i < j
abbrev pub pressure_text : Case → Enclosures → ℕ → ℕ → List ℕ
pressure_text c x i j =
    codes "q " ++ name_text c i ++ codes " " ++ name_text c j
    ++ ends_line (codes " ") (ends_at x.pressure_roots (pair_place i j))

-- the printed pairs of a component with each later one
abbrev pub pressures_text : Case → Enclosures → ℕ → List ℕ
pressures_text c x i = texts_below c.n (λ j. cond (nat_lt i j) (pressure_text c x i j) [])

-- the printed pairs, those of two components in the order 01, 02, 03, 12, 13, 23
abbrev pub enclosures_text : Case → Enclosures → List ℕ
enclosures_text c x =
    ends_line (codes "two ") x.root_two ++ ends_line (codes "e ") x.log_e
    ++ texts_below c.n (temperature_text c x)
    ++ texts_below c.n (pressures_text c x)

-- the whole report of a flash
unfoldable pub flash_text : Params → Picked → ℕ → Answer → List ℕ
flash_text p picked tol a =
    outcome_text a.outcome ++ line (codes " units=") (decimal a.units)
    ++ conditions_text p.case tol
    ++ line (codes "energy=") (signed_decimal a.u)
    ++ line (codes "gap=") (signed_decimal a.gap)
    ++ line (codes "gap-joules-per-mole=") (fixed_text (millijoules a.gap p.case.t p.e.lo) 3)
    ++ split_text picked a.split.sum a.split.phases.items
    ++ plane_text p.case a
    ++ line (codes "low=") (signed_decimal a.low)
    ++ enclosures_text p.case (enclosures_in p.case.n p.two p.e p.t p.q)

-- what is printed at each end
abbrev pub report_text : End → List ℕ
report_text (end.Words fault) = line (codes "refused words ") (word_fault_text fault)
report_text end.Read = unread_text
report_text end.TooLong = too_long_text
report_text (end.Table fault) = line (codes "refused table ") (table_fault_text fault)
report_text (end.Case fault) = line (codes "refused case ") (case_fault_text fault)
report_text (end.Flash params picked tol answer) = flash_text params picked tol answer
report_text (end.Cert params answer) = certificate_text params answer
report_text (end.Checked verdict) = verdict_text verdict
report_text (end.Edge by answer) = edge_text by answer
report_text end.Memory = []
