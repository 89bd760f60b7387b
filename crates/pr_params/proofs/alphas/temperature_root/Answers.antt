use Rattle.std.proofs.Common.{◌≡◌, ◌*◌, ◌^◌, ◌≤◌, pos, ap, arith}
use Rattle.std.proofs.lemmas.Int.{ints}
use Rattle.log_laws.specs.Between.{Ends}
use Rattle.log_laws.specs.Roots.{root_floor, root_ceiling}
use Rattle.pr_params.proofs.Temperature.{root_small, ceiling_near}
use Rattle.pr_params.proofs.alphas.temperature_root.Goals as goal
use Rattle.pr_params.proofs.alphas.temperature_root.Goals.{After-root_iv}

pub root_iv-requires-clause-ends_fit : goal.root_iv-requires-clause-ends_fit
root_iv-requires-clause-ends_fit c = omega (arith, c.requires.t_high, c.requires.tc_low)

lo_is : (c : After-root_iv) → c.root_iv.result.lo ≡ pos (root_floor c.args.t c.args.tc 48)
lo_is c = ap (λ (e : Ends). e.lo) c.root_iv.ensures.ends

hi_is : (c : After-root_iv) → c.root_iv.result.hi ≡ pos (root_ceiling c.args.t c.args.tc 48)
hi_is c = ap (λ (e : Ends). e.hi) c.root_iv.ensures.ends

pub returns-clause-low : goal.returns-clause-low
returns-clause-low c = rw (lo_is c) (omega (arith, ints))

pub returns-clause-high : goal.returns-clause-high
returns-clause-high c =
    let r = root_floor c.args.t c.args.tc 48 in
    let near = ceiling_near r (c.args.t * 4 ^ 48) c.args.tc in
    let square : r * r * c.args.tc ≤ c.args.t * 2 ^ 96 = rw (lo_is c) at c.root_iv.ensures.square in
    let small = root_small r c.args.t c.args.tc square c.requires.tc_low c.requires.t_high in
    rw (hi_is c) (omega (arith, ints, near, small))
