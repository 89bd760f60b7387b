use Rattle.std.proofs.Common.{◌≡◌, ◌*◌, ◌-◌, ◌^◌, List, IsTrue, ℕ, slice_index, sym, ap, subst, ◌∙◌}
use Rattle.log_laws.specs.Sums.{list_below}
use Rattle.case_types.specs.Grid.Cells.{region_of, box_of_region, middle_sum, middle_of}
use Rattle.case_types.specs.Ranges.{is_each_at_most}
use Rattle.density_boxes.proofs.Spread.{spread, middles, middles_listed, sum-middles, spread-middles}
use Rattle.density_boxes.proofs.Middles.{low_below_middle, middle_below_high}
use Rattle.density_boxes.proofs.midpoints.middle_fractions.Goals as goal

pub returns-clause-at : goal.returns-clause-at
returns-clause-at c =
    let r = region_of c.args.cell.now in
    let n = c.args.n in
    let three : c.middles-middles.result ≡ middles r = c.middles-middles.ensures ∙ middles_listed r in
    let sum : c.free_sum.result ≡ middle_sum n r = rw three at c.free_sum.ensures ∙ sum-middles n r c.requires.four in
    let composition : c.composition.result ≡ spread n (middle_of r) (2 ^ 20 - middle_sum n r) =
    c.composition.ensures
    ∙ ap (λ (xs : List ℕ). spread n (slice_index xs) c.rest_of.result) three
    ∙ ap (spread n (slice_index (middles r))) (rw sum at c.rest_of.ensures)
    ∙ spread-middles n r (2 ^ 20 - middle_sum n r) c.requires.four in
    c.in_packing_units.ensures ∙ ap (λ (xs : List ℕ). list_below 4 (λ i. slice_index xs i * 2 ^ 20)) composition

pub returns-clause-low : goal.returns-clause-low
returns-clause-low c =
    let r = region_of c.args.cell.now in
    subst (λ (xs : List ℕ). IsTrue (is_each_at_most 4 (box_of_region c.args.n r).lo xs)) (sym (returns-clause-at c))
    (low_below_middle c.args.n r c.requires.one c.requires.four c.args.cell.now.ordered)

pub returns-clause-high : goal.returns-clause-high
returns-clause-high c =
    let r = region_of c.args.cell.now in
    subst (λ (xs : List ℕ). IsTrue (is_each_at_most 4 xs (box_of_region c.args.n r).hi)) (sym (returns-clause-at c))
    (middle_below_high c.args.n r c.requires.one c.requires.four c.args.cell.now.ordered)
