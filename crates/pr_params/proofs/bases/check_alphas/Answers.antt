use Rattle.std.proofs.Common.{◌≡◌, ◌+◌, ap, ◌∙◌, get_or, to_z, of_z, arith}
use Rattle.std.specs.Int.{w128}
use Rattle.std.proofs.lemmas.Int.{ints}
use Rattle.log_laws.specs.Between.{Ends}
use Rattle.log_laws.proofs.Exports.{back}
use Rattle.case_types.specs.declared.cases.ParamFault.TheVariants.{MRange}
use Rattle.case_types.specs.Arithmetic.Faults.{alpha_fault}
use Rattle.case_types.specs.Arithmetic.Numbers.{numbers_of}
use Rattle.pr_params.specs.Entries.{alpha_entry}
use Rattle.pr_params.proofs.Below.{first_below_more, first_below_found, first_below_zero}
use Rattle.pr_params.proofs.EntryFaults.{alpha_fault_yes, alpha_fault_no}
use Rattle.pr_params.proofs.Slots.{slot_at}
use Rattle.pr_params.proofs.bases.check_alphas.Goals as goal
use Rattle.pr_params.proofs.bases.check_alphas.Goals.{After-index-m-i}

-- the root that is read
lo_is : (c : After-index-m-i) → (get_or c.args.m.now c.loop-i.i c.index-m-i.result).lo ≡ (alpha_entry c.args.case.now c.loop-i.i).lo
lo_is c =
    let case = c.args.case.now in
    ap (λ (v : Ends). v.lo) (slot_at case.n (alpha_entry case) c.args.m.now c.index-m-i.result c.loop-i.i case.few c.requires c.loop-i-test.true)

read : (c : After-index-m-i) → to_z w128 (of_z w128 (get_or c.args.m.now c.loop-i.i c.index-m-i.result).lo) ≡ (alpha_entry c.args.case.now c.loop-i.i).lo
read c =
    let v = get_or c.args.m.now c.loop-i.i c.index-m-i.result in
    back v.lo (omega (arith, v.lo_small)) ∙ lo_is c

pub loop-i-init : goal.loop-i-init
loop-i-init c = first_below_zero (alpha_fault (numbers_of c.args.case.now))

pub returns-then-m-i-clause-err : goal.returns-then-m-i-clause-err
returns-then-m-i-clause-err c =
    let case = c.args.case.now in
    first_below_found case.n (alpha_fault (numbers_of case)) c.loop-i.i (MRange (c.loop-i.i + 1)) c.loop-i-test.true c.loop-i.invariant
    (alpha_fault_yes case c.loop-i.i c.loop-i-test.true (let t = rw (read (goal.at.returns-then-m-i-clause-err c).After-index-m-i) at c.if-m-i.true in omega (arith, ints, t)))

pub loop-i-preserved : goal.loop-i-preserved
loop-i-preserved c =
    let case = c.args.case.now in
    first_below_more c.loop-i.i (alpha_fault (numbers_of case)) c.loop-i.invariant
    (alpha_fault_no case c.loop-i.i c.loop-i-test.true (let t = rw (read (goal.at.loop-i-preserved c).After-index-m-i) at c.if-m-i.false in omega (arith, ints, t)))

pub returns-clause-ok : goal.returns-clause-ok
returns-clause-ok c =
    let end : c.loop-i.i ≡ c.args.case.now.n = omega arith in
    rw end at c.loop-i.invariant
