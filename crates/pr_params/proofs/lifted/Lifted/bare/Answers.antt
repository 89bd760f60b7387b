use Rattle.std.proofs.Common.{◌≡◌, ◌*◌, ◌^◌, ◌<◌, ◌≤◌, ℕ, ◌-ℤ◌, pos, unsigned_abs, sym, ap, ◌∙◌, arith}
use Rattle.std.proofs.lemmas.Int.{ints}
use Rattle.std.proofs.Math.Nat.{mul-le-mul}
use Rattle.log_laws.specs.Between.{Ends}
use Rattle.case_types.specs.Energy.Components.{interaction, critical_temperature}
use Rattle.case_types.specs.Energy.Parameters.{cohesion_num}
use Rattle.log_laws.specs.Interval.{ends}
use Rattle.pr_params.specs.Entries.{pressure_entry}
use Rattle.pr_params.proofs.Bares.{bare_fits, bare_made}
use Rattle.pr_params.proofs.Components.{interaction_at_least, interaction_at_most, interaction_read}
use Rattle.pr_params.proofs.ParametersHold.{cohesion_natural}
use Rattle.pr_params.proofs.Pressures.{root_positive}
use Rattle.pr_params.proofs.lifted.Lifted.bare.Goals as goal
use Rattle.pr_params.proofs.lifted.Lifted.bare.Goals.{After-natural_ends-q_lo}

pub natural_ends-q_lo-requires : goal.natural_ends-q_lo-requires
natural_ends-q_lo-requires c =
    let low = (root_positive c.args.self.now.case c.args.i c.args.j c.requires.live c.requires.other_live).low in
    let is = ap (λ (v : Ends). v.lo) c.pressure_root_of.ensures in
    omega (arith, ints, low, is)

root_is : (c : After-natural_ends-q_lo) → ends (pos c.natural_ends-q_lo.result.0) (pos c.natural_ends-q_lo.result.1) ≡ pressure_entry c.args.self.now.case c.args.i c.args.j
root_is c = c.natural_ends-q_lo.ensures.ends ∙ c.pressure_root_of.ensures

den_small : (c : After-natural_ends-q_lo) → c.cohesion_den-den.result * c.natural_ends-q_lo.result.1 < 2 ^ 127
den_small c =
    let high = (root_positive c.args.self.now.case c.args.i c.args.j c.requires.live c.requires.other_live).high in
    let is = ap (λ (v : Ends). v.hi) (root_is c) in
    let q : c.natural_ends-q_lo.result.1 ≤ 50000000 * 2 ^ 32 = omega (arith, ints, high, is) in
    let p = mul-le-mul c.cohesion_den-den.ensures.high q in omega (arith, p)

den_ordered : (c : After-natural_ends-q_lo) → c.cohesion_den-den.result * c.natural_ends-q_lo.result.0 ≤ c.cohesion_den-den.result * c.natural_ends-q_lo.result.1
den_ordered c = let g : c.cohesion_den-den.result ≤ c.cohesion_den-den.result = omega arith in mul-le-mul g c.natural_ends-q_lo.ensures.ordered

den_some : (c : After-natural_ends-q_lo) → 1 ≤ c.cohesion_den-den.result * c.natural_ends-q_lo.result.0
den_some c =
    let low = (root_positive c.args.self.now.case c.args.i c.args.j c.requires.live c.requires.other_live).low in
    let is = ap (λ (v : Ends). v.lo) (root_is c) in
    let q : 1 ≤ c.natural_ends-q_lo.result.0 = omega (arith, ints, low, is) in
    let p = mul-le-mul c.cohesion_den-den.ensures.positive q in omega (arith, p)

pub overflow_mul-den : goal.overflow_mul-den
overflow_mul-den c = let p = den_small c in let q = den_ordered c in search (arith, p, q)

pub overflow_mul-den-2 : goal.overflow_mul-den-2
overflow_mul-den-2 c = let p = den_small c in search (arith, p)

pub bare_attraction-requires-clause-positive : goal.bare_attraction-requires-clause-positive
bare_attraction-requires-clause-positive c = den_some c

pub bare_attraction-requires-clause-small_den : goal.bare_attraction-requires-clause-small_den
bare_attraction-requires-clause-small_den c = den_small c

num_is : (c : After-natural_ends-q_lo) → pos c.cohesion_num-num.result ≡ cohesion_num c.args.self.now.case c.args.i c.args.j
num_is c =
    rw (c.row_at.ensures.tc, c.row_at-2.ensures.tc, c.interaction_of-k.ensures.value, interaction_read c.args.self.now.case c.args.i c.args.j c.requires.live c.requires.other_live)
    at c.cohesion_num-num.ensures.value

pub bare_attraction-requires-clause-fits : goal.bare_attraction-requires-clause-fits
bare_attraction-requires-clause-fits c =
    let s = c.args.self.now in
    let low = interaction_at_least s.case c.args.i c.args.j c.requires.live c.requires.other_live in
    let high = interaction_at_most s.case c.args.i c.args.j c.requires.live c.requires.other_live in
    let rest : ℕ = unsigned_abs (pos 10000 -ℤ interaction s.case c.args.i c.args.j) in
    let few : rest ≤ 15000 = omega (arith, ints, low, high) in
    let natural = num_is c ∙ cohesion_natural s.case c.args.i c.args.j c.requires.live c.requires.other_live in
    let num : c.cohesion_num-num.result ≡ rest * (11431 * s.case.p * critical_temperature s.case c.args.i * critical_temperature s.case c.args.j) = cc natural in
    let lo = sym (ap (λ (v : Ends). v.lo) (root_is c)) in
    rw (num, s.lifted, c.cohesion_den-den.ensures.value)
    (bare_fits s.case c.args.i c.args.j rest c.natural_ends-q_lo.result.0 s.range c.requires.live c.requires.other_live few lo)

pub returns : goal.returns
returns c =
    let s = c.args.self.now in
    bare_made s.case c.args.i c.args.j c.cohesion_num-num.result c.cohesion_den-den.result c.natural_ends-q_lo.result.0 c.natural_ends-q_lo.result.1 s.lift
    c.bare_attraction.result.lo c.bare_attraction.result.hi (den_some (goal.at.returns c).After-natural_ends-q_lo) s.lifted (num_is (goal.at.returns c).After-natural_ends-q_lo)
    c.cohesion_den-den.ensures.value (root_is (goal.at.returns c).After-natural_ends-q_lo) c.bare_attraction.ensures.lo c.bare_attraction.ensures.hi
