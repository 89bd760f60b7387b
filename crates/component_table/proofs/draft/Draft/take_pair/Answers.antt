use Rattle.std.proofs.Common.{◌≡◌, ◌++◌, ◌∷◌, [], List, map, sym, ap, ◌∙◌, Ok, ℤ, w32, to_z, of_z}
use Rattle.std.proofs.lemmas.Int.{to_z-of_z}
use Rattle.case_types.specs.declared.cases.Row.{Row}
use Rattle.case_words.specs.Names.{text_of}
use Rattle.component_table.specs.declared.rows.PairRow.{PairRow}
use Rattle.component_table.specs.Tables.{known, is_pair}
use Rattle.component_table.specs.Rows.{plain_row}
use Rattle.component_table.specs.Views.{drafted}
use Rattle.std.specs.List.{list_any}
use Rattle.component_table.proofs.draft.Draft.take_pair.Goals.{then-i-j-via-then-i-j, then-i-j-via-else-i-j+then-has_pair}
use Rattle.component_table.proofs.Taking.{pair-unknown, pair-second_unknown, pair-same, pair-stands, pair-taken}
use Rattle.component_table.proofs.draft.Draft.take_pair.Goals as goal

pub returns-in-Err-clause-fault : goal.returns-in-Err-clause-fault
returns-in-Err-clause-fault c =
    pair-unknown c.args.n (drafted c.args.self.now) (text_of c.args.first.now) (text_of c.args.second.now) c.args.k c.in-Err.fault (ap (λ (xs : List Row). known c.args.n (map plain_row xs) (text_of c.args.first.now)) (sym c.deref.ensures.value) ∙ c.in-Err.ensures)

pub returns-in-Err-place_of-clause-fault : goal.returns-in-Err-place_of-clause-fault
returns-in-Err-place_of-clause-fault c =
    pair-second_unknown c.args.n (drafted c.args.self.now) (text_of c.args.first.now) (text_of c.args.second.now) c.args.k c.in-Ok.i c.in-Err-place_of.fault
    (ap (λ (xs : List Row). known c.args.n (map plain_row xs) (text_of c.args.first.now)) (sym c.deref.ensures.value) ∙ c.in-Ok.ensures)
    (ap (λ (xs : List Row). known c.args.n (map plain_row xs) (text_of c.args.second.now)) (sym c.deref-2.ensures.value) ∙ c.in-Err-place_of.ensures)

pub returns-then-i-j-clause-fault : goal.returns-then-i-j-clause-fault
returns-then-i-j-clause-fault c =
    let one = (ap (λ (xs : List Row). known c.args.n (map plain_row xs) (text_of c.args.first.now)) (sym c.deref.ensures.value) ∙ c.in-Ok.ensures) in
    let two = (ap (λ (xs : List Row). known c.args.n (map plain_row xs) (text_of c.args.second.now)) (sym c.deref-2.ensures.value) ∙ c.in-Ok-place_of.ensures) in
    elim c.then-i-j.branch [
      | then-i-j-via-then-i-j w ↦ pair-same c.args.n (drafted c.args.self.now) (text_of c.args.first.now) (text_of c.args.second.now) c.args.k c.in-Ok.i c.in-Ok-place_of.j one two w.if-i-j.true
      | then-i-j-via-else-i-j+then-has_pair w ↦
          pair-stands c.args.n (drafted c.args.self.now) (text_of c.args.first.now) (text_of c.args.second.now) c.args.k c.in-Ok.i c.in-Ok-place_of.j one two
          (ap (list_any (is_pair c.in-Ok.i c.in-Ok-place_of.j)) (sym w.deref-else-i-j.ensures.value) ∙ sym w.if-has_pair.ensures)
    ]

pub returns-clause-taken : goal.returns-clause-taken
returns-clause-taken c =
    let one = (ap (λ (xs : List Row). known c.args.n (map plain_row xs) (text_of c.args.first.now)) (sym c.deref.ensures.value) ∙ c.in-Ok.ensures) in
    let two = (ap (λ (xs : List Row). known c.args.n (map plain_row xs) (text_of c.args.second.now)) (sym c.deref-2.ensures.value) ∙ c.in-Ok-place_of.ensures) in
    let back : to_z w32 (of_z w32 c.args.k) ≡ c.args.k = to_z-of_z w32 c.args.k c.ranges.k in
    let items = rw c.if-is_err.ensures.negation at c.push.ensures.items in
    pair-taken c.args.n (drafted c.args.self.now) (text_of c.args.first.now) (text_of c.args.second.now) c.args.k c.in-Ok.i c.in-Ok-place_of.j one two c.if-i-j.false
    (ap (list_any (is_pair c.in-Ok.i c.in-Ok-place_of.j)) (sym c.deref-else-i-j.ensures.value) ∙ sym c.if-has_pair.ensures)
    ∙ ap (λ (k : ℤ). Ok (record (drafted c.args.self.now) { pairs = c.args.self.now.pairs.items ++ record { i = c.in-Ok.i; j = c.in-Ok-place_of.j; k = k } ∷ [] }))
    (sym back)
    ∙ ap (λ (pairs : List PairRow). Ok (record (drafted c.args.self.now) { pairs = pairs })) (sym items)
