use Rattle.std.proofs.Common.{◌+◌, ap}
use Rattle.log_laws.specs.Between.{Ends}
use Rattle.case_types.specs.declared.cases.ParamFault.TheVariants.{ARange}
use Rattle.case_types.specs.Arithmetic.Faults.{attraction_fault}
use Rattle.case_types.specs.Arithmetic.Numbers.{numbers_of}
use Rattle.pr_params.proofs.Below.{first_below_more, first_below_found, first_below_nowhere}
use Rattle.pr_params.proofs.EntryFaults.{attraction_fault_yes, attraction_fault_no, attraction_fault_before, lesser_below, lesser_above}
use Rattle.pr_params.proofs.bases.Bases.check_row.Goals as goal

pub loop-j-init : goal.loop-j-init
loop-j-init c =
    let case = c.args.self.now.case in
    first_below_nowhere c.args.i (attraction_fault (numbers_of case) c.args.i) (λ j l. attraction_fault_before case c.args.i j l)

pub returns-then-hi-min-clause-err : goal.returns-then-hi-min-clause-err
returns-then-hi-min-clause-err c =
    let case = c.args.self.now.case in
    let i = c.args.i in
    let j = c.loop-j.j in
    let hi = ap (λ (v : Ends). v.hi) c.attraction-hi.ensures.ends in
    first_below_found case.n (attraction_fault (numbers_of case) i) j (ARange (i + 1) (j + 1)) c.loop-j-test.true c.loop-j.invariant
    (attraction_fault_yes case i j c.requires c.loop-j-test.true c.loop-j.auto.j
    (lesser_above c.covolume_lo.result c.covolume_lo-in-loop-j.result c.min.result c.attraction-hi.result.1 _ _ _
    c.covolume_lo.ensures.value c.covolume_lo-in-loop-j.ensures.value hi c.min.ensures c.if-hi-min.true))

pub loop-j-preserved : goal.loop-j-preserved
loop-j-preserved c =
    let case = c.args.self.now.case in
    let i = c.args.i in
    let j = c.loop-j.j in
    let hi = ap (λ (v : Ends). v.hi) c.attraction-hi.ensures.ends in
    first_below_more j (attraction_fault (numbers_of case) i) c.loop-j.invariant
    (attraction_fault_no case i j c.requires c.loop-j-test.true c.loop-j.auto.j
    (lesser_below c.covolume_lo.result c.covolume_lo-in-loop-j.result c.min.result c.attraction-hi.result.1 _ _ _
    c.covolume_lo.ensures.value c.covolume_lo-in-loop-j.ensures.value hi c.min.ensures c.if-hi-min.false))
