-- The live names of a job, their components and the interactions of those.
use Rattle.std.specs.Prelude.{ℕ, ◌+◌, ◌-◌, ◌≡◌, IsTrue, List, [], ◌∷◌, ◌++◌, length, slice_index, slice_index_or, Bool, ◌==◌, nat_le, nat_lt, if◌then◌else◌, ℤ, pos, Result, Ok}
use Rattle.std.specs.List.{list_all, sum}
use Rattle.case_words.specs.Answers.{◌>>=◌, when}
use Rattle.component_table.specs.declared.cases.CaseFault.{CaseFault}
use Rattle.component_table.specs.declared.cases.CaseFault.TheVariants.{NoName}
use Rattle.component_table.specs.declared.rows.PairRow.{PairRow}
use Rattle.component_table.specs.Records.{PlainRow}
use Rattle.component_table.specs.Tables.{index_in, is_pair}

-- for each live name its index in the list, the place of its component from 1, and its part of the feed
pub record PlainChosen : Type 0 where
  pub live : List ℕ
  pub places : List ℕ
  pub parts : List ℕ

-- nothing yet
abbrev pub none_chosen : PlainChosen
none_chosen = record { live = []; places = []; parts = [] }

-- each live name has a place and a part, which is positive, and the parts have this sum
pub record IsLive (c : PlainChosen) (total : ℕ) : Type 0 where
  pub lives : length c.live ≡ length c.parts
  pub as_many : length c.places ≡ length c.parts
  pub added : sum c.parts ≡ total
  pub positive : IsTrue (list_all (nat_le 1) c.parts)

-- with the component at a place for the name at an index, unless it has no part of the feed
abbrev pub with_part : ℕ → PlainChosen → ℕ → ℕ → PlainChosen
with_part i c place part =
    if part == 0 then c
    else record { live = c.live ++ i ∷ []; places = c.places ++ place ∷ []; parts = c.parts ++ part ∷ [] }

-- the place of the component of the name at an index
abbrev pub place_for : ℕ → List PlainRow → List ℕ → Result ℕ CaseFault
place_for i comps name = when (nat_lt (index_in comps name) (length comps)) (index_in comps name + 1) (NoName (i + 1))

-- with these names, the first at this index of the list, whose parts are those of the feed
unfoldable pub with_names : ℕ → List PlainRow → PlainChosen → List (List ℕ) → List ℕ → Result PlainChosen CaseFault
with_names i comps c [] parts = Ok c
with_names i comps c (name ∷ names) parts = do
  place ← place_for i comps name
  with_names (i + 1) comps (with_part i c place (slice_index parts i)) names parts

-- the live names and their components, or the first name that has none
abbrev pub chosen_of : List PlainRow → List (List ℕ) → List ℕ → Result PlainChosen CaseFault
chosen_of comps names parts = with_names 0 comps none_chosen names parts

-- four of a kind
abbrev pub four : {X : Type 0} → (ℕ → X) → List X
four f = f 0 ∷ f 1 ∷ f 2 ∷ f 3 ∷ []

-- a component without a name, which stands where there is none
abbrev pub no_row : PlainRow
no_row = record { name = []; tc = 5000; pc = 100000; w = pos 0 }

-- the component at a place from 1
abbrev pub row_in : List PlainRow → ℕ → PlainRow
row_in comps place = if nat_le 1 place then slice_index_or comps (place - 1) no_row else no_row

-- the number of the first interaction that passes, or 0
unfoldable pub first_k : (PairRow → Bool) → List PairRow → ℤ
first_k p [] = pos 0
first_k p (pair ∷ pairs) = if p pair then pair.k else first_k p pairs

-- the interaction of two places: 0 of a place with itself, and where there is no record
abbrev pub interaction_of : List PairRow → ℕ → ℕ → ℤ
interaction_of pairs i j = if i == j then pos 0 else first_k (is_pair i j) pairs
