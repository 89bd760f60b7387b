use Rattle.std.proofs.Common.{◌≡◌, ◌∙◌, ◌≤◌, ℕ, List, length, map, get_or, sym, ap, arith, refl, true}
use Rattle.std.specs.Prelude.{nat_le, nat_lt}
use Rattle.std.specs.List.{list_all}
use Rattle.log_laws.specs.Sums.{all_below, sum_below}
use Rattle.case_types.specs.Ranges.{are_interactions}
use Rattle.case_types.specs.declared.cases.Name.{Name}
use Rattle.case_types.specs.declared.cases.Row.{Row}
use Rattle.case_words.specs.Names.{text_of}
use Rattle.component_table.specs.declared.rows.CpRow.{CpRow}
use Rattle.component_table.specs.declared.rows.PairRow.{PairRow}
use Rattle.component_table.specs.Capacities.{capacity_in}
use Rattle.component_table.specs.Records.{PlainRow}
use Rattle.component_table.specs.Rows.{plain_row, is_row, is_pair_row}
use Rattle.component_table.specs.Choosing.{chosen_of, four, row_in, interaction_of}
use Rattle.component_table.specs.Chosens.{plain_chosen}
use Rattle.component_table.proofs.Choices.{row-in_range, rows-tc, rows-pc, rows-w, in_range, turned, of-one, four-interactions, parts-live, parts-added, parts-some}
use Rattle.component_table.proofs.picking.pick.Goals as goal

pub returns-in-Err-clause-fault : goal.returns-in-Err-clause-fault
returns-in-Err-clause-fault c =
    ap (λ (rows : List Row). chosen_of (map plain_row rows) (map text_of c.args.job.now.names.items) c.args.job.now.z.items) (sym c.deref.ensures.value)
    ∙ c.in-Err.ensures.exact

pub invariant_of-result : goal.invariant_of-result
invariant_of-result c =
    let parts = c.in-Ok.chosen.parts.items in
    let live = c.in-Ok.ensures.live in
    let job = c.args.job.now in
    let count : c.len.result ≡ length parts = omega (arith, c.len.ensures.value, live.lives) in
    let few : c.len.result ≤ 4 = c.len.ensures.fits in
    let few_parts : length parts ≤ 4 = omega (arith, count, few) in
    let z_is = c.four_of.ensures ∙ ap (λ (ps : List ℕ). four (λ k. get_or ps k 0)) c.as_slice-2.ensures.value in
    let some = parts-some parts (omega (arith, live.added, c.in-Ok.ensures.total, job.total_low)) in
    let comps = map plain_row c.deref-2.result.now in
    let all : list_all is_row comps ≡ true = ap (λ (rows : List Row). list_all is_row (map plain_row rows)) c.deref-2.ensures.value ∙ c.args.table.now.rows in
    let pairs = c.deref-3.result.now in
    let all_pairs : list_all is_pair_row pairs ≡ true = ap (list_all is_pair_row) c.deref-3.ensures.value ∙ c.args.table.now.interactions in
    let places = c.four_of-places.result in
    let f : ℕ → PlainRow = λ i. row_in comps (get_or places i 0) in
    let rows_in : (i : ℕ) → is_row (f i) ≡ true = λ i. row-in_range comps (get_or places i 0) all in
    record {
      some = omega (arith, some, count);
      few = few;
      tc_range = rows-tc c.rows_of.result f c.len.result few c.rows_of.ensures rows_in;
      pc_range = rows-pc c.rows_of.result f c.len.result few c.rows_of.ensures rows_in;
      w_range = rows-w c.rows_of.result f c.len.result few c.rows_of.ensures rows_in;
      interactions = ap are_interactions c.interactions_of.ensures
          ∙ four-interactions (λ i j. interaction_of pairs (get_or places i 0) (get_or places j 0))
          (λ i j. in_range pairs (get_or places i 0) (get_or places j 0) all_pairs)
          (λ i j. turned pairs (get_or places i 0) (get_or places j 0))
          (λ i. of-one pairs (get_or places i 0));
      live = ap (λ (m : ℕ). all_below m (λ i. nat_le 1 (get_or c.four_of.result i 0))) count
          ∙ ap (λ (zs : List ℕ). all_below (length parts) (λ i. nat_le 1 (get_or zs i 0))) z_is
          ∙ parts-live parts few_parts live.positive;
      added = ap (λ (m : ℕ). sum_below m (λ i. get_or c.four_of.result i 0)) count
          ∙ ap (λ (zs : List ℕ). sum_below (length parts) (λ i. get_or zs i 0)) z_is
          ∙ parts-added parts few_parts
          ∙ live.added;
      total_high = omega (arith, c.in-Ok.ensures.total, job.total_high);
      t_low = job.t_low;
      t_high = job.t_high;
      p_low = job.p_low;
      p_high = job.p_high;
    }

pub returns-clause-picked : goal.returns-clause-picked
returns-clause-picked c =
    let chosen = c.in-Ok.chosen in
    let places_is = c.four_of-places.ensures ∙ ap (λ (ps : List ℕ). four (λ k. get_or ps k 0)) c.as_slice.ensures.value in
    let z_is = c.four_of.ensures ∙ ap (λ (ps : List ℕ). four (λ k. get_or ps k 0)) c.as_slice-2.ensures.value in
    record {
      chosen = plain_chosen chosen;
      chosen_is = ap (λ (rows : List Row). chosen_of (map plain_row rows) (map text_of c.args.job.now.names.items) c.args.job.now.z.items) (sym c.deref.ensures.value)
          ∙ c.in-Ok.ensures.exact;
      case_is = record {
        count = c.len.ensures.value;
        rows = c.rows_of.ensures
            ∙ ap (λ (rows : List Row). four (λ i. row_in (map plain_row rows) (get_or c.four_of-places.result i 0))) c.deref-2.ensures.value
            ∙ ap (λ (ps : List ℕ). four (λ i. row_in (map plain_row c.args.table.now.comps.items) (get_or ps i 0))) places_is;
        interactions = c.interactions_of.ensures
            ∙ ap (λ (pairs : List PairRow). four (λ i. four (λ j. interaction_of pairs (get_or c.four_of-places.result i 0) (get_or c.four_of-places.result j 0)))) c.deref-3.ensures.value
            ∙ ap (λ (ps : List ℕ). four (λ i. four (λ j. interaction_of c.args.table.now.pairs.items (get_or ps i 0) (get_or ps j 0)))) places_is;
        parts = z_is;
        total = c.in-Ok.ensures.total;
        temperature = refl;
        pressure = refl;
        edition = refl;
      };
      live = refl;
      names = ap (map text_of) (c.copy_of.ensures ∙ c.as_slice-3.ensures.value);
      capacities = c.capacities_of.ensures.value
          ∙ ap (λ (rows : List CpRow). map (capacity_in rows) c.as_slice-4.result.now) c.deref-4.ensures.value
          ∙ ap (map (capacity_in c.args.table.now.cps.items)) c.as_slice-4.ensures.value;
    }

pub invariant_of-result-2-clause-placed : goal.invariant_of-result-2-clause-placed
invariant_of-result-2-clause-placed c =
    let names = c.copy_of.ensures ∙ c.as_slice-3.ensures.value in
    ap (λ (ns : List Name). list_all (λ (k : ℕ). nat_lt k (length ns)) c.in-Ok.chosen.live.items) names ∙ c.in-Ok.ensures.rising.below
