use Rattle.std.proofs.Common.{◌∙◌, ◌*◌, ◌≤◌, ◌^◌, unsigned_abs, sym, arith}
use Rattle.std.proofs.lemmas.Int.{ints}
use Rattle.log_laws.proofs.Exports.{back}
use Rattle.helmholtz_density.proofs.Terms.{mixing_none, mixing_whole, mixing_some, ceiling_small}
use Rattle.helmholtz_density.proofs.mixes.mixing.Goals as goal
use Rattle.helmholtz_density.proofs.mixes.mixing.Goals.{After-upper, then-b-eq0-via-then-b-eq0, then-b-eq0-via-else-b-eq0+then-b-eq-ONE}

pub returns-then-b-eq0-clause-value : goal.returns-then-b-eq0-clause-value
returns-then-b-eq0-clause-value c =
    elim c.then-b-eq0.branch [
      | then-b-eq0-via-then-b-eq0 w ↦ sym (mixing_none c.args.a c.args.b w.if-b-eq0.true)
      | then-b-eq0-via-else-b-eq0+then-b-eq-ONE w ↦ sym (mixing_whole c.args.a c.args.b w.if-b-eq-ONE.true)
    ]

-- the logarithm of a fraction is small
log_small : (c : After-upper) → unsigned_abs c.upper.result ≤ 2 ^ 46
log_small c =
    let p = c.upper.ensures.from_power 0 (omega arith) in
    let q = c.upper.ensures.to_power 41 (omega arith) in
    omega (arith, ints, p, q)

pub part-requires-clause-log : goal.part-requires-clause-log
part-requires-clause-log c = let s = log_small c in rw (back c.upper.result (omega (arith, s))) s

pub returns-clause-value : goal.returns-clause-value
returns-clause-value c =
    let s = log_small (goal.at.returns-clause-value c).After-upper in
    let p = c.part.ensures.small in
    let q = c.ceiling.ensures.small in
    let e = rw (back c.upper.result (omega (arith, s)), c.upper.ensures.value) at c.part.ensures.value in
    let f = rw (back c.part.result (omega (arith, p, c.requires.ordered, c.requires.inside)), e) at c.ceiling.ensures.value in
    back c.ceiling.result (omega (arith, q)) ∙ f ∙ sym (mixing_some c.args.a c.args.b c.if-b-eq0.false)

pub returns-clause-small : goal.returns-clause-small
returns-clause-small c =
    let p = c.part.ensures.small in
    let q = c.ceiling.ensures.small in
    let r = back c.part.result (omega (arith, p, c.requires.ordered, c.requires.inside)) in
    rw (back c.ceiling.result (omega (arith, q)), c.ceiling.ensures.value, r) (ceiling_small c.part.result (c.args.a * 2 ^ 6) (omega (arith, p)))
