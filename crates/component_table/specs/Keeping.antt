-- What a table keeps of the ranges, of names and of places.
use Rattle.std.specs.Prelude.{IsTrue, length}
use Rattle.std.specs.List.{list_all}
use Rattle.case_types.specs.Ranges.{is_interaction}
use Rattle.component_table.specs.Records.{PlainRecord, PlainComp, PlainPair, PlainCp, is_coefficient}
use Rattle.component_table.specs.Rows.{is_row, is_pair_row}
use Rattle.component_table.specs.Tables.{Held}
use Rattle.component_table.specs.Apart.{are_apart, is_named, is_namesake, is_between, is_same_pair, is_cp_of, is_cp_row, is_same_cp}

-- what a record says is in its ranges, and a component has a name
abbrev pub IsSaid : PlainRecord → Type 0
IsSaid (PlainComp row) = IsTrue (is_row row) × IsTrue (is_named row)
IsSaid (PlainPair first second k) = IsTrue (is_interaction k)
IsSaid (PlainCp name cp) = IsTrue (list_all is_coefficient cp)

-- every number is in its range; components have names that differ; interactions and heat capacities are of such components, each
-- of them once
pub record IsKept (t : Held) : Type 0 where
  pub rows : IsTrue (list_all is_row t.comps)
  pub named : IsTrue (list_all is_named t.comps)
  pub names : IsTrue (are_apart is_namesake t.comps)
  pub interactions : IsTrue (list_all is_pair_row t.pairs)
  pub pair_places : IsTrue (list_all (is_between (length t.comps)) t.pairs)
  pub once : IsTrue (are_apart is_same_pair t.pairs)
  pub coefficients : IsTrue (list_all is_cp_row t.cps)
  pub cp_places : IsTrue (list_all (is_cp_of (length t.comps)) t.cps)
  pub cp_once : IsTrue (are_apart is_same_cp t.cps)
