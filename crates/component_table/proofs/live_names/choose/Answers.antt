use Rattle.std.proofs.Common.{◌≡◌, ◌∙◌, ◌∷◌, ◌+◌, ◌<◌, ◌≤◌, ℕ, List, [], length, map, get_or, drop, take, sym, subst, ap, arith, refl}
use Rattle.std.specs.List.{sum}
use Rattle.std.proofs.lemmas.List.{length-map, get_or-map, take_more, take_all}
use Rattle.std.proofs.lemmas.List.Sums.{sum_by-take-le, sum_by-append}
use Rattle.case_types.specs.declared.cases.Name.{Name}
use Rattle.case_words.specs.Names.{text_of}
use Rattle.component_table.specs.Rows.{plain_row}
use Rattle.component_table.specs.Tables.{index_in}
use Rattle.component_table.specs.Choosing.{PlainChosen, with_part, with_names}
use Rattle.component_table.specs.Rising.{AreRisingBelow}
use Rattle.component_table.specs.Chosens.{plain_chosen}
use Rattle.component_table.proofs.Choices.{names-more, names-stop, names-end}
use Rattle.component_table.proofs.Rising.{rising-none, rising-part, rising-fewer}
use Rattle.component_table.proofs.live_names.choose.Goals as goal

sum-more : (z : List ℕ) (i : ℕ) → i < length z → sum (take (i + 1) z) ≡ sum (take i z) + get_or z i 0
sum-more z i inside = rw (take_more z i 0 inside, sum_by-append (λ (x : ℕ). x) (take i z) (get_or z i 0 ∷ [])) (omega arith)

pub loop-i-init : goal.loop-i-init
loop-i-init c =
    let none : length c.new-chosen.result.parts.items ≡ 0 = ap (λ (m : PlainChosen). length m.parts) c.new-chosen.ensures.exact in
    record {
      so_far = rw c.new-chosen.ensures.exact refl;
      few = omega (arith, none);
      total = c.new-chosen.ensures.total;
      live = rw (c.new-chosen.ensures.exact, c.new-chosen.ensures.total) (record { lives = refl; as_many = refl; added = refl; positive = refl });
      rising = subst (λ (m : PlainChosen). AreRisingBelow 0 m.live) (sym c.new-chosen.ensures.exact) rising-none;
    }

pub returns-then-index-comps-clause-exact : goal.returns-then-index-comps-clause-exact
returns-then-index-comps-clause-exact c =
    let names = c.args.job.now.names.items in
    let here : c.loop-i.i < length names = omega (arith, c.loop-i-test.true, ap length c.as_slice-names.ensures.value) in
    let inside : c.loop-i.i < length (map text_of names) = omega (arith, here, length-map names text_of) in
    let text = ap text_of c.index-names-i.is ∙ ap (λ (ns : List Name). text_of (get_or ns c.loop-i.i c.index-names-i.result)) c.as_slice-names.ensures.value
    ∙ sym (get_or-map text_of names c.loop-i.i c.index-names-i.result [] here) in
    let at = c.index_of-index.ensures.at ∙ ap (index_in (map plain_row c.args.comps.now)) text in
    c.loop-i.invariant.so_far
    ∙ names-stop c.loop-i.i (map plain_row c.args.comps.now) (plain_chosen c.loop-i.chosen) (map text_of names) c.args.job.now.z.items c.index_of-index.result inside at
    (omega (arith, length-map c.args.comps.now plain_row, c.if-index-comps.true))

pub take-requires-clause-total : goal.take-requires-clause-total
take-requires-clause-total c =
    let z = c.args.job.now.z.items in
    let inside : c.loop-i.i < length z = omega (arith, c.loop-i-test.true, ap length c.as_slice-names.ensures.value, c.args.job.now.as_many) in
    let part : get_or c.as_slice-parts.result.now c.loop-i.i 0 ≡ get_or z c.loop-i.i 0 = ap (λ (ps : List ℕ). get_or ps c.loop-i.i 0) c.as_slice-parts.ensures.value in
    let most : sum (take (c.loop-i.i + 1) z) ≤ sum z = sum_by-take-le (λ (x : ℕ). x) z (c.loop-i.i + 1) in
    omega (arith, part, most, sum-more z c.loop-i.i inside, c.loop-i.invariant.total, c.args.job.now.total_high)

pub loop-i-preserved : goal.loop-i-preserved
loop-i-preserved c =
    let names = c.args.job.now.names.items in
    let z = c.args.job.now.z.items in
    let comps = map plain_row c.args.comps.now in
    let here : c.loop-i.i < length names = omega (arith, c.loop-i-test.true, ap length c.as_slice-names.ensures.value) in
    let inside : c.loop-i.i < length (map text_of names) = omega (arith, here, length-map names text_of) in
    let text = ap text_of c.index-names-i.is ∙ ap (λ (ns : List Name). text_of (get_or ns c.loop-i.i c.index-names-i.result)) c.as_slice-names.ensures.value
    ∙ sym (get_or-map text_of names c.loop-i.i c.index-names-i.result [] here) in
    let at = c.index_of-index.ensures.at ∙ ap (index_in comps) text in
    let there : c.index_of-index.result < length comps = omega (arith, length-map c.args.comps.now plain_row, c.if-index-comps.false, c.index_of-index.ensures.inside) in
    let part : get_or c.as_slice-parts.result.now c.loop-i.i 0 ≡ get_or z c.loop-i.i 0 = ap (λ (ps : List ℕ). get_or ps c.loop-i.i 0) c.as_slice-parts.ensures.value in
    let in_z : c.loop-i.i < length z = omega (arith, here, c.args.job.now.as_many) in
    let now = c.take.ensures.exact ∙ ap (with_part c.loop-i.i (plain_chosen c.loop-i.chosen) (c.index_of-index.result + 1)) part in
    record {
      so_far = c.loop-i.invariant.so_far
          ∙ names-more c.loop-i.i comps (plain_chosen c.loop-i.chosen) (map text_of names) z c.index_of-index.result inside at there
          ∙ ap (λ (m : PlainChosen). with_names (c.loop-i.i + 1) comps m (drop (c.loop-i.i + 1) (map text_of names)) z) (sym now);
      few = omega (arith, c.take.ensures.few, c.loop-i.invariant.few);
      total = omega (arith, c.take.ensures.total, c.loop-i.invariant.total, part, sum-more z c.loop-i.i in_z);
      live = c.take.ensures.live;
      rising = subst (λ (m : PlainChosen). AreRisingBelow (c.loop-i.i + 1) m.live) (sym c.take.ensures.exact)
          (rising-part c.loop-i.i (plain_chosen c.loop-i.chosen) (c.index_of-index.result + 1) (get_or c.as_slice-parts.result.now c.loop-i.i 0) c.loop-i.invariant.rising);
    }

pub returns-clause-exact : goal.returns-clause-exact
returns-clause-exact c =
    let names = c.args.job.now.names.items in
    let end : length (map text_of names) ≤ c.loop-i.i = omega (arith, length-map names text_of, c.loop-i-test.false, ap length c.as_slice-names.ensures.value) in
    c.loop-i.invariant.so_far
    ∙ names-end c.loop-i.i (map plain_row c.args.comps.now) (plain_chosen c.loop-i.chosen) (map text_of names) c.args.job.now.z.items end

pub returns-clause-total : goal.returns-clause-total
returns-clause-total c =
    let z = c.args.job.now.z.items in
    let end : length z ≤ c.loop-i.i = omega (arith, c.loop-i-test.false, ap length c.as_slice-names.ensures.value, c.args.job.now.as_many) in
    c.loop-i.invariant.total ∙ ap sum (take_all c.loop-i.i z end)

pub returns-clause-rising : goal.returns-clause-rising
returns-clause-rising c =
    rising-fewer c.loop-i.i (length c.args.job.now.names.items) c.loop-i.chosen.live.items
    (omega (arith, c.loop-i.auto, ap length c.as_slice-names.ensures.value)) c.loop-i.invariant.rising
