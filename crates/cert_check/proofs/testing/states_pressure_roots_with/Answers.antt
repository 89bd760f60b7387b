use Rattle.std.proofs.Common.{◌≡◌, ◌≤◌, sym, ◌∙◌, arith, length, refl, rules}
use Rattle.log_laws.proofs.Exports.{all_below-more, all_below-fails}
use Rattle.cert_check.proofs.Pairs.{is_stated_pressure, pressure_same}
use Rattle.cert_check.proofs.testing.states_pressure_roots_with.Goals as goal
use Rattle.cert_check.proofs.testing.states_pressure_roots_with.Goals.{After-are_same}

here : (c : After-are_same) → c.are_same.result ≡ is_stated_pressure c.args.stated.now c.args.j c.loop-i.i
here c =
    let p = c.args.params.now in
    let stated = c.args.stated.now in
    let all : 6 ≤ length p.q = search rules in
    let stated_all : 6 ≤ length stated.q = search rules in
    let place = c.pair_place-place in
    c.are_same.ensures
    ∙ pressure_same stated p c.loop-i.i c.args.j place.result c.index-stated-place.result c.index-params-place.result c.requires.same place.ensures.value place.ensures.inside stated_all all

pub loop-i-init : goal.loop-i-init
loop-i-init c = refl

pub returns-then-not-are_same : goal.returns-then-not-are_same
returns-then-not-are_same c =
    sym (all_below-fails c.args.j (is_stated_pressure c.args.stated.now c.args.j) c.loop-i.i c.loop-i-test.true
    (sym (here (goal.at.returns-then-not-are_same c).After-are_same) ∙ c.if-not-are_same.true))

pub loop-i-preserved : goal.loop-i-preserved
loop-i-preserved c =
    all_below-more c.loop-i.i (is_stated_pressure c.args.stated.now c.args.j) c.loop-i.invariant (sym (here (goal.at.loop-i-preserved c).After-are_same) ∙ c.if-not-are_same.false)

pub returns : goal.returns
returns c =
    let end : c.loop-i.i ≡ c.args.j = omega arith in
    sym (rw end at c.loop-i.invariant)
