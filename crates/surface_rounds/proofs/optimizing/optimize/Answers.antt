use Rattle.std.proofs.Common.{◌-◌, refl, ◌∙◌, arith}
use Rattle.case_types.specs.declared.pivots.Pivot.{Pivot}
use Rattle.surface_rounds.proofs.Pivoting.{none_pivoted, one_pivot_more}
use Rattle.surface_rounds.proofs.optimizing.optimize.Goals as goal

pub loop-enter-init : goal.loop-enter-init
loop-enter-init c =
    let units = c.args.units.now.spent in
    record {
      basis = c.requires.basis;
      pivoted = none_pivoted c.args.case.now c.args.columns.now.items c.args.basis.now.at c.args.pivots.now (units - units) (omega arith);
      spent = omega arith;
      budget = refl;
    }

pub price-requires-clause-basis : goal.price-requires-clause-basis
price-requires-clause-basis c = c.loop-enter.invariant.basis

pub returns-then-is_spent-clause-basis : goal.returns-then-is_spent-clause-basis
returns-then-is_spent-clause-basis c = c.loop-enter.invariant.basis

pub returns-then-is_spent-clause-pivoted : goal.returns-then-is_spent-clause-pivoted
returns-then-is_spent-clause-pivoted c = c.loop-enter.invariant.pivoted

pub returns-then-is_spent-clause-spent : goal.returns-then-is_spent-clause-spent
returns-then-is_spent-clause-spent c = c.loop-enter.invariant.spent

pub returns-then-is_spent-clause-budget : goal.returns-then-is_spent-clause-budget
returns-then-is_spent-clause-budget c = c.loop-enter.invariant.budget

pub pivot-leave-requires-clause-basis : goal.pivot-leave-requires-clause-basis
pivot-leave-requires-clause-basis c = c.loop-enter.invariant.basis

pub push-requires : goal.push-requires
push-requires c =
    let i = c.loop-enter.invariant in
    omega (arith, i.pivoted.room, i.spent, i.budget, c.requires.room, c.spend.ensures.spent, c.spend.ensures.budget, c.spend.new.self.within)

pub loop-enter-smaller : goal.loop-enter-smaller
loop-enter-smaller c = omega (arith, c.spend.ensures.spent, c.spend.ensures.budget, c.spend.new.self.within)

pub loop-enter-preserved : goal.loop-enter-preserved
loop-enter-preserved c =
    let i = c.loop-enter.invariant in
    let v : Pivot = record { enter = c.in-Some.enter; leave = c.pivot-leave.result } in
    record {
      basis = c.pivot-leave.ensures.kept;
      pivoted = rw c.pivot-leave.ensures.entered
          (one_pivot_more c.args.case.now c.args.columns.now.items c.args.basis.now.at c.loop-enter.basis.at v c.args.pivots.now c.loop-enter.pivots c.push.new.self
          (c.loop-enter.units.spent - c.args.units.now.spent) (c.spend.new.self.spent - c.args.units.now.spent) i.pivoted
          c.in-Some.ensures c.pivot-leave.ensures.leaves c.push.ensures.items c.push.ensures.room (omega (arith, i.spent, c.spend.ensures.spent)));
      spent = omega (arith, i.spent, c.spend.ensures.spent);
      budget = c.spend.ensures.budget ∙ i.budget;
    }

pub returns-clause-basis : goal.returns-clause-basis
returns-clause-basis c = c.loop-enter.invariant.basis

pub returns-clause-pivoted : goal.returns-clause-pivoted
returns-clause-pivoted c = c.loop-enter.invariant.pivoted

pub returns-clause-spent : goal.returns-clause-spent
returns-clause-spent c = c.loop-enter.invariant.spent

pub returns-clause-budget : goal.returns-clause-budget
returns-clause-budget c = c.loop-enter.invariant.budget
