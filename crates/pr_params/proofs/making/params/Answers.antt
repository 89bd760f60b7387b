use Rattle.std.proofs.Common.{◌≡◌, pos, None, sym, ap, ◌∙◌, to_z, arith}
use Rattle.std.specs.Int.{w128}
use Rattle.std.proofs.lemmas.Int.{ints}
use Rattle.std.proofs.lemmas.Result.{err_from_is_err_and}
use Rattle.case_types.specs.declared.cases.Case.{Case}
use Rattle.case_types.specs.Arithmetic.Numbers.{lift_of, enclosures_of}
use Rattle.case_types.specs.Arithmetic.Faults.{fault_of}
use Rattle.pr_params.specs.Entries.{temperature_entry, alpha_entry, covolume_entry, bare_entry, attraction_entry, filled, filled_table}
use Rattle.pr_params.proofs.Filled.{numbers_filled, pairs_filled}
use Rattle.pr_params.proofs.FirstFault.{range_fault, ratio_fault, alpha_first, attractions_decide}
use Rattle.pr_params.proofs.GreatestLift.{lift_greatest}
use Rattle.pr_params.proofs.ParametersHold.{holds_parameters}
use Rattle.pr_params.proofs.Right.{enclosures_right}
use Rattle.pr_params.proofs.Slots.{vacant, vacant_table}
use Rattle.pr_params.proofs.making.params.Goals as goal
use Rattle.pr_params.proofs.making.params.Goals.{After-greatest_ratio, In_ok-check_attractions}

pub returns-then-not-are_in_range-clause-err : goal.returns-then-not-are_in_range-clause-err
returns-then-not-are_in_range-clause-err c = range_fault c.args.case.now (sym c.are_in_range.ensures ∙ c.if-not-are_in_range.true)

pub returns-then-not-are_near-clause-err : goal.returns-then-not-are_near-clause-err
returns-then-not-are_near-clause-err c =
    ratio_fault c.args.case.now (sym c.are_in_range.ensures ∙ c.if-not-are_in_range.false) (sym c.are_near.ensures ∙ c.if-not-are_near.true)

pub returns-in_err-check_alphas-clause-err : goal.returns-in_err-check_alphas-clause-err
returns-in_err-check_alphas-clause-err c =
    let p = err_from_is_err_and c.from_residual.result c.from_residual.ensures.1 in
    rw (p.1, p.2)
    (alpha_first c.args.case.now _ (sym c.are_in_range.ensures ∙ c.if-not-are_in_range.false) (sym c.are_near.ensures ∙ c.if-not-are_near.false) c.in_err-check_alphas.ensures.err)

pub returns-in_err-check_attractions-clause-err : goal.returns-in_err-check_attractions-clause-err
returns-in_err-check_attractions-clause-err c =
    let p = err_from_is_err_and c.from_residual-in_err-check_attractions.result c.from_residual-in_err-check_attractions.ensures.1 in
    rw (p.1, p.2)
    (attractions_decide c.args.case.now (sym c.are_in_range.ensures ∙ c.if-not-are_in_range.false) (sym c.are_near.ensures ∙ c.if-not-are_near.false) c.in_ok-check_alphas.ensures.ok
    ∙ c.in_err-check_attractions.ensures.err)

-- no range is broken
accepted : (c : In_ok-check_attractions) → fault_of c.args.case.now ≡ None
accepted c =
    attractions_decide c.args.case.now (sym c.are_in_range.ensures ∙ c.if-not-are_in_range.false) (sym c.are_near.ensures ∙ c.if-not-are_near.false) c.in_ok-check_alphas.ensures.ok
    ∙ c.in_ok-check_attractions.ensures.ok

pub attractions-requires : goal.attractions-requires
attractions-requires c = accepted (goal.at.attractions-requires c).In_ok-check_attractions

pub greatest_ratio-requires : goal.greatest_ratio-requires
greatest_ratio-requires c = accepted (goal.at.greatest_ratio-requires c).In_ok-check_attractions

pub invariant_of-result : goal.invariant_of-result
invariant_of-result c =
    let case = c.args.case.now in
    let lifted = c.lift_case-lifted.result in
    let same = c.lift_case-lifted.ensures in
    let rho : to_z w128 c.greatest_ratio.result ≡ pos c.greatest_ratio.result = omega (arith, ints, c.greatest_ratio.ensures.high) in
    record {
      right = numbers_filled case lifted.lift c.root_iv.result c.log2e.result c.roots.result.1 c.covolumes.result c.bare_attractions.result c.attractions.result (to_z w128 c.greatest_ratio.result) (record {
        lifted = lifted.lifted ∙ ap (λ (x : Case). lift_of x) same;
        root_two = c.root_iv.ensures.ends;
        log_e = c.log2e.ensures.ends;
        alphas = c.roots.ensures.alphas;
        covolumes = c.covolumes.ensures ∙ ap (λ (x : Case). filled x.n (covolume_entry x)) same;
        bares = c.bare_attractions.ensures ∙ ap (λ (x : Case). filled_table x.n (bare_entry x)) same;
        attractions = c.attractions.ensures;
        ratio = rho ∙ c.greatest_ratio.ensures.value;
      });
      printed = pairs_filled case c.root_iv.result c.log2e.result c.roots.result.0 lifted.q c.root_iv.ensures.ends c.log2e.ensures.ends c.roots.ensures.temperatures
          (lifted.printed ∙ ap (λ (x : Case). (enclosures_of x).pressure_roots) same);
      accepted = accepted (goal.at.invariant_of-result c).In_ok-check_attractions;
    }

pub returns-clause-right : goal.returns-clause-right
returns-clause-right c = rw (invariant_of-result (goal.at.returns-clause-right c).After-greatest_ratio).printed (enclosures_right c.args.case.now)

pub returns-clause-lift : goal.returns-clause-lift
returns-clause-lift c =
    let is = c.lift_case-lifted.result.lifted ∙ ap (λ (x : Case). lift_of x) c.lift_case-lifted.ensures in
    rw is (lift_greatest c.args.case.now (accepted (goal.at.returns-clause-lift c).In_ok-check_attractions))

pub returns-clause-holds : goal.returns-clause-holds
returns-clause-holds c = λ x instance. let kept = invariant_of-result (goal.at.returns-clause-holds c).After-greatest_ratio in rw kept.right (holds_parameters c.args.case.now x kept.accepted (rw kept.printed at instance))

pub returns-clause-vacant : goal.returns-clause-vacant
returns-clause-vacant c =
    let case = c.args.case.now in
    let same = c.lift_case-lifted.ensures in
    record {
      temperature_roots = vacant case.n (temperature_entry case) c.roots.result.0 c.roots.ensures.temperatures;
      alpha_roots = vacant case.n (alpha_entry case) c.roots.result.1 c.roots.ensures.alphas;
      covolumes = vacant case.n (covolume_entry case) c.covolumes.result (c.covolumes.ensures ∙ ap (λ (x : Case). filled x.n (covolume_entry x)) same);
      bare_attractions = vacant_table case.n (bare_entry case) c.bare_attractions.result (c.bare_attractions.ensures ∙ ap (λ (x : Case). filled_table x.n (bare_entry x)) same);
      attractions = vacant_table case.n (attraction_entry case) c.attractions.result c.attractions.ensures;
    }
