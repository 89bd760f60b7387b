-- The case that a job names in a table, or the first name without a component.
use Rattle.std.specs.Prelude.{◌≡◌, length, map, slice_index, Ok, Err}
use Rattle.std.specs.List.{sum}
use Rattle.case_types.specs.declared.cases.Case.{Case}
use Rattle.case_words.specs.Jobs.{Asked}
use Rattle.case_words.specs.Names.{text_of}
use Rattle.component_table.specs.declared.cases.CaseFault.{CaseFault}
use Rattle.component_table.specs.declared.cases.Picked.{Picked}
use Rattle.component_table.specs.Capacities.{capacity_in}
use Rattle.component_table.specs.Rows.{plain_row}
use Rattle.component_table.specs.Tables.{Held}
use Rattle.component_table.specs.Choosing.{PlainChosen, chosen_of, four, row_in, interaction_of}

-- the case has the chosen components with their interactions and parts, and what the job asks
pub record IsCaseOf (t : Held) (asked : Asked) (chosen : PlainChosen) (case_ : Case) : Type 0 where
  pub count : case_.n ≡ length chosen.live
  pub rows : map plain_row case_.rows ≡ four (λ i. row_in t.comps (slice_index chosen.places i))
  pub interactions : case_.k ≡ four (λ i. four (λ j. interaction_of t.pairs (slice_index chosen.places i) (slice_index chosen.places j)))
  pub parts : case_.z ≡ four (slice_index chosen.parts)
  pub total : case_.total ≡ sum asked.z
  pub temperature : case_.t ≡ asked.t
  pub pressure : case_.p ≡ asked.p
  pub edition : case_.edition ≡ asked.edition

-- the case and the live names are those of what the job names
pub record Picks (t : Held) (asked : Asked) (picked : Picked) : Type 0 where
  pub chosen : PlainChosen
  pub chosen_is : chosen_of t.comps asked.names asked.z ≡ Ok chosen
  pub case_is : IsCaseOf t asked chosen picked.case
  pub live : picked.live.items ≡ chosen.live
  pub names : map text_of picked.names.items ≡ asked.names
  pub capacities : picked.cps.items ≡ map (capacity_in t.cps) chosen.places

-- the fault is that of the first name without a component
abbrev pub Refuses : Held → Asked → CaseFault → Type 0
Refuses t asked fault = chosen_of t.comps asked.names asked.z ≡ Err fault
