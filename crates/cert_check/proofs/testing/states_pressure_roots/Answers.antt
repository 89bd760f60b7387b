use Rattle.std.proofs.Common.{◌≡◌, sym, ◌∙◌, arith}
use Rattle.log_laws.proofs.Exports.{all_below-more, all_below-fails}
use Rattle.cert_check.proofs.Pairs.{are_stated_pressures}
use Rattle.cert_check.proofs.testing.states_pressure_roots.Goals as goal

pub returns-then-not-states_pressure_roots_with : goal.returns-then-not-states_pressure_roots_with
returns-then-not-states_pressure_roots_with c =
    sym (all_below-fails c.args.stated.now.case.n (are_stated_pressures c.args.stated.now) c.loop-j.j c.loop-j-test.true
    (sym c.states_pressure_roots_with.ensures ∙ c.if-not-states_pressure_roots_with.true))

pub loop-j-preserved : goal.loop-j-preserved
loop-j-preserved c =
    all_below-more c.loop-j.j (are_stated_pressures c.args.stated.now) c.loop-j.invariant (sym c.states_pressure_roots_with.ensures ∙ c.if-not-states_pressure_roots_with.false)

pub returns : goal.returns
returns c =
    let end : c.loop-j.j ≡ c.args.stated.now.case.n = omega arith in
    sym (rw end at c.loop-j.invariant)
