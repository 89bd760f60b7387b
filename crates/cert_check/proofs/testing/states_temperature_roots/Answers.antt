use Rattle.std.proofs.Common.{◌≡◌, ◌≤◌, sym, ◌∙◌, arith, length, refl, rules}
use Rattle.log_laws.proofs.Exports.{all_below-more, all_below-fails}
use Rattle.cert_check.proofs.Pairs.{is_stated_temperature, temperature_same}
use Rattle.cert_check.proofs.testing.states_temperature_roots.Goals as goal
use Rattle.cert_check.proofs.testing.states_temperature_roots.Goals.{After-are_same}

here : (c : After-are_same) → c.are_same.result ≡ is_stated_temperature c.args.stated.now c.loop-i.i
here c =
    let p = c.args.params.now in
    let stated = c.args.stated.now in
    let all : 4 ≤ length p.t = search rules in
    let stated_all : 4 ≤ length stated.t = search rules in
    c.are_same.ensures ∙ temperature_same stated p c.loop-i.i c.index-stated-i.result c.index-params-i.result c.requires c.loop-i-test.true stated_all all

pub loop-i-init : goal.loop-i-init
loop-i-init c = refl

pub returns-then-not-are_same : goal.returns-then-not-are_same
returns-then-not-are_same c =
    sym (all_below-fails c.args.stated.now.case.n (is_stated_temperature c.args.stated.now) c.loop-i.i c.loop-i-test.true
    (sym (here (goal.at.returns-then-not-are_same c).After-are_same) ∙ c.if-not-are_same.true))

pub loop-i-preserved : goal.loop-i-preserved
loop-i-preserved c =
    all_below-more c.loop-i.i (is_stated_temperature c.args.stated.now) c.loop-i.invariant (sym (here (goal.at.loop-i-preserved c).After-are_same) ∙ c.if-not-are_same.false)

pub returns : goal.returns
returns c =
    let end : c.loop-i.i ≡ c.args.stated.now.case.n = omega arith in
    sym (rw end at c.loop-i.invariant)
