-- The text of a refusal: a group, a fault as it is called, and the places and names that it has.
use Rattle.std.specs.Prelude.{ℕ, List, ◌++◌, codes}
use Rattle.std.specs.Fmt.{decimal}
use Rattle.dec_text.specs.declared.faults.DecFault.{DecFault}
use Rattle.dec_text.specs.declared.faults.DecFault.TheVariants.{Empty, Sign, Digit, Places, TooLarge}
use Rattle.case_types.specs.declared.cases.ParamFault.{ParamFault}
use Rattle.case_types.specs.declared.cases.ParamFault.TheVariants.{BRange, BRatio, MRange, ARange}
use Rattle.case_words.specs.Keys.{key_text}
use Rattle.case_words.specs.declared.faults.WordFault.{WordFault}
use Rattle.case_words.specs.declared.faults.WordFault.TheVariants.{NoCommand, Unknown, Twice, Value, Range, Count, Missing}
use Rattle.component_table.specs.declared.faults.TableFault.{TableFault}
use Rattle.component_table.specs.declared.faults.TableFault.TheVariants as table
use Rattle.component_table.specs.declared.cases.CaseFault.{CaseFault}
use Rattle.component_table.specs.declared.cases.CaseFault.TheVariants.{NoName, NoCp, Param}

-- a fault at a place
abbrev pub placed : List ℕ → ℕ → List ℕ
placed fault place = fault ++ codes " " ++ decimal place

-- a fault at two places
abbrev pub placed_twice : List ℕ → ℕ → ℕ → List ℕ
placed_twice fault first second = placed fault first ++ codes " " ++ decimal second

-- what is wrong with a number or a name
abbrev pub number_fault_text : DecFault → List ℕ
number_fault_text Empty = codes "Empty"
number_fault_text Sign = codes "Sign"
number_fault_text Digit = codes "Digit"
number_fault_text Places = codes "Places"
number_fault_text TooLarge = codes "TooLarge"

abbrev pub word_fault_text : WordFault → List ℕ
word_fault_text NoCommand = codes "NoCommand"
word_fault_text (Unknown word) = placed (codes "Unknown") word
word_fault_text (Twice word) = placed (codes "Twice") word
word_fault_text (Value word fault) = placed (codes "Value") word ++ codes " " ++ number_fault_text fault
word_fault_text (Range word) = placed (codes "Range") word
word_fault_text (Count word) = placed (codes "Count") word
word_fault_text (Missing key) = codes "Missing " ++ key_text key

abbrev pub table_fault_text : TableFault → List ℕ
table_fault_text (table.Fields n) = placed (codes "Fields") n
table_fault_text (table.Utf8 n) = placed (codes "Utf8") n
table_fault_text (table.Kind n) = placed (codes "Kind") n
table_fault_text (table.Number n f fault) = placed_twice (codes "Number") n f ++ codes " " ++ number_fault_text fault
table_fault_text (table.Range n f) = placed_twice (codes "Range") n f
table_fault_text (table.UnknownName n) = placed (codes "UnknownName") n
table_fault_text (table.Twice n) = placed (codes "Twice") n
table_fault_text (table.TooMany n) = placed (codes "TooMany") n

abbrev pub range_fault_text : ParamFault → List ℕ
range_fault_text BRange = codes "BRange"
range_fault_text BRatio = codes "BRatio"
range_fault_text (MRange i) = placed (codes "MRange") i
range_fault_text (ARange i j) = placed_twice (codes "ARange") i j

abbrev pub case_fault_text : CaseFault → List ℕ
case_fault_text (NoName name) = placed (codes "NoName") name
case_fault_text (NoCp name) = placed (codes "NoCp") name
case_fault_text (Param fault) = range_fault_text fault

-- the input couldn't be read
abbrev pub unread_text : List ℕ
unread_text = codes "refused read\n"

-- the input has more bytes than it may have
abbrev pub too_long_text : List ℕ
too_long_text = codes "refused long\n"
