-- The text of a search for a phase boundary, which goes over the pressure or the temperature.
use Rattle.std.specs.Prelude.{ℕ, pos, List, ◌++◌, codes}
use Rattle.std.specs.Fmt.{decimal, signed_decimal}
use Rattle.case_types.specs.declared.answers.Outcome.{Outcome}
use Rattle.case_types.specs.declared.cases.ParamFault.{ParamFault}
use Rattle.case_types.specs.declared.edges.EdgeAnswer.{EdgeAnswer}
use Rattle.case_types.specs.declared.edges.EdgeAnswer.TheVariants.{Bracket, NoEdge, Stopped, Refused}
use Rattle.case_types.specs.declared.edges.EdgeEnd.{EdgeEnd}
use Rattle.case_types.specs.declared.edges.Kind.{Kind}
use Rattle.case_types.specs.declared.edges.Kind.TheVariants.{Divided, Liquid, Vapour}
use Rattle.case_words.specs.declared.boundaries.By.{By}
use Rattle.case_words.specs.declared.boundaries.By.TheVariants.{Pressure, Temperature}
use Rattle.dec_text.specs.Printed.{fixed_text}
use Rattle.report_text.specs.Pieces.{line, outcome_text}
use Rattle.report_text.specs.RefusalText.{range_fault_text}

-- what the feed is at an end
abbrev pub kind_text : Kind → List ℕ
kind_text Divided = codes "divided"
kind_text Liquid = codes "liquid"
kind_text Vapour = codes "vapour"

-- the quantity that is searched over
abbrev pub quantity_text : By → List ℕ
quantity_text Pressure = codes " P "
quantity_text Temperature = codes " T "

-- a place: a pressure in Pa, or a temperature in K with three places
abbrev pub place_text : By → ℕ → List ℕ
place_text Pressure at = decimal at
place_text Temperature at = fixed_text (pos at) 3

-- the places of two ends
abbrev pub places_text : List ℕ → By → EdgeEnd → EdgeEnd → List ℕ
places_text head by lo hi = head ++ quantity_text by ++ place_text by lo.at ++ line (codes " ") (place_text by hi.at)

-- their kinds
abbrev pub kinds_text : EdgeEnd → EdgeEnd → List ℕ
kinds_text lo hi = codes "ends " ++ kind_text lo.kind ++ line (codes " ") (kind_text hi.kind)

-- their gaps
abbrev pub gaps_text : EdgeEnd → EdgeEnd → List ℕ
gaps_text lo hi = codes "gaps " ++ signed_decimal lo.gap ++ line (codes " ") (signed_decimal hi.gap)

-- two ends, the lower before the upper
abbrev pub both_text : List ℕ → By → EdgeEnd → EdgeEnd → List ℕ
both_text head by lo hi = places_text head by lo hi ++ kinds_text lo hi ++ gaps_text lo hi

-- an outcome that ended the search at a place
abbrev pub stopped_text : By → ℕ → Outcome → ℕ → List ℕ
stopped_text by at outcome units = outcome_text outcome ++ codes " at=" ++ place_text by at ++ line (codes " units=") (decimal units)

-- a range that the parameters break at a place
abbrev pub refused_text : By → ℕ → ParamFault → List ℕ
refused_text by at fault = codes "refused case " ++ range_fault_text fault ++ line (codes " at=") (place_text by at)

abbrev pub edge_text : By → EdgeAnswer → List ℕ
edge_text by (Bracket lo hi) = both_text (codes "bracket") by lo hi
edge_text by (NoEdge lo hi) = both_text (codes "no-edge") by lo hi
edge_text by (Stopped at outcome units) = stopped_text by at outcome units
edge_text by (Refused at fault) = refused_text by at fault
