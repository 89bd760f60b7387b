use Rattle.std.proofs.Common.{rules, ℕ, ℤ, zero, suc, ◌≤◌, arith, length, get_or}
use Rattle.log_laws.specs.declared.iv.Iv.{Iv}
use Rattle.pr_params.proofs.HeldAt.{covolume_low_read, four_read_small}
use Rattle.pr_params.proofs.covolume_means.covolumes_low.Goals as goal

pub returns-clause-at : goal.returns-clause-at
returns-clause-at c zero h = let all : 4 ≤ length c.args.params.now.b = search rules in covolume_low_read c.args.params.now 0 c.index-b-0.result all h
returns-clause-at c (suc zero) h = let all : 4 ≤ length c.args.params.now.b = search rules in covolume_low_read c.args.params.now 1 c.index-b-1.result all h
returns-clause-at c (suc (suc zero)) h = let all : 4 ≤ length c.args.params.now.b = search rules in covolume_low_read c.args.params.now 2 c.index-b-2.result all h
returns-clause-at c (suc (suc (suc zero))) h = let all : 4 ≤ length c.args.params.now.b = search rules in covolume_low_read c.args.params.now 3 c.index-b-3.result all h
returns-clause-at c (suc (suc (suc (suc i)))) h = let few = c.args.params.now.case.few in absurd (omega (arith, h, few))

pub returns-clause-small : goal.returns-clause-small
returns-clause-small c =
    let b = c.args.params.now.b in
    let v : ℕ → Iv → ℤ = λ i d. (get_or b i d).lo in
    four_read_small (v 0 c.index-b-0.result) (v 1 c.index-b-1.result) (v 2 c.index-b-2.result) (v 3 c.index-b-3.result)
    (get_or b 0 c.index-b-0.result).lo_small (get_or b 1 c.index-b-1.result).lo_small (get_or b 2 c.index-b-2.result).lo_small (get_or b 3 c.index-b-3.result).lo_small
