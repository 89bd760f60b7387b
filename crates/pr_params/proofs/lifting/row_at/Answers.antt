use Rattle.std.proofs.Common.{◌<◌, length, pos, sym, arith}
use Rattle.std.proofs.lemmas.List.{get_or-map}
use Rattle.case_types.specs.declared.cases.Row.{Row}
use Rattle.pr_params.proofs.Components.{component_at}
use Rattle.pr_params.proofs.lifting.row_at.Goals as goal
use Rattle.pr_params.proofs.lifting.row_at.Goals.{After-index-case-i}

short : (c : After-index-case-i) → c.args.i < length c.args.case.now.rows
short c = let few = c.args.case.now.few in omega arith

pub returns-clause-tc : goal.returns-clause-tc
returns-clause-tc c = sym (get_or-map (λ (r : Row). r.tc) c.args.case.now.rows c.args.i c.index-case-i.result 0 (short c))

pub returns-clause-pc : goal.returns-clause-pc
returns-clause-pc c = sym (get_or-map (λ (r : Row). r.pc) c.args.case.now.rows c.args.i c.index-case-i.result 0 (short c))

pub returns-clause-w : goal.returns-clause-w
returns-clause-w c = sym (get_or-map (λ (r : Row). r.w) c.args.case.now.rows c.args.i c.index-case-i.result (pos 0) (short c))

pub returns-clause-tc_range : goal.returns-clause-tc_range
returns-clause-tc_range c = let k = component_at c.args.case.now c.args.i c.requires in rw (returns-clause-tc c) (k.tc_low, k.tc_high)

pub returns-clause-pc_range : goal.returns-clause-pc_range
returns-clause-pc_range c = let k = component_at c.args.case.now c.args.i c.requires in rw (returns-clause-pc c) (k.pc_low, k.pc_high)

pub returns-clause-w_range : goal.returns-clause-w_range
returns-clause-w_range c = let k = component_at c.args.case.now c.args.i c.requires in rw (returns-clause-w c) (k.w_low, k.w_high)
