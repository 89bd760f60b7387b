use Rattle.std.proofs.Common.{rules, ◌≤◌, ◌∙◌, length, lit<, get_or, map, pos}
use Rattle.log_laws.specs.Interval.{ends, ends_of}
use Rattle.slope_form.specs.Forms.{form_of, slope_of}
use Rattle.slope_form.specs.Ranges.{from_of, to_of}
use Rattle.slope_form.proofs.Capped.{entry_is}
use Rattle.slope_form.proofs.Kept.{is_form}
use Rattle.slope_form.proofs.Lows.{low_holds, low_is, sum_read, sum_small, sum_fits, step_is}
use Rattle.slope_form.proofs.ranges.low.Goals as goal

pub returns-clause-value : goal.returns-clause-value
returns-clause-value c =
    let f = form_of c.args.f in
    let lf : 4 ≤ length c.args.f.by = search rules in
    let ls : 4 ≤ length c.args.steps = search rules in
    let at = c.args.f.at in
    let f0 = entry_is c.args.f.by 0 c.index-f-0.result lf (lit< tt) c.index-f-0.is in
    let s0 = entry_is c.args.steps 0 c.index-steps-0.result ls (lit< tt) c.index-steps-0.is in
    let e0 = step_is c.index-f-0.result (get_or c.args.f.by 0 c.index-f-0.result) c.index-steps-0.result (get_or c.args.steps 0 c.index-steps-0.result) (slope_of f 0) (get_or (map ends_of c.args.steps) 0 (ends (pos 0) (pos 0))) c.least.result c.index-f-0.is c.index-steps-0.is f0 s0 c.least.ensures.value in
    let f1 = entry_is c.args.f.by 1 c.index-f-1.result lf (lit< tt) c.index-f-1.is in
    let s1 = entry_is c.args.steps 1 c.index-steps-1.result ls (lit< tt) c.index-steps-1.is in
    let e1 = step_is c.index-f-1.result (get_or c.args.f.by 1 c.index-f-1.result) c.index-steps-1.result (get_or c.args.steps 1 c.index-steps-1.result) (slope_of f 1) (get_or (map ends_of c.args.steps) 1 (ends (pos 0) (pos 0))) c.least-2.result c.index-f-1.is c.index-steps-1.is f1 s1 c.least-2.ensures.value in
    let f2 = entry_is c.args.f.by 2 c.index-f-2.result lf (lit< tt) c.index-f-2.is in
    let s2 = entry_is c.args.steps 2 c.index-steps-2.result ls (lit< tt) c.index-steps-2.is in
    let e2 = step_is c.index-f-2.result (get_or c.args.f.by 2 c.index-f-2.result) c.index-steps-2.result (get_or c.args.steps 2 c.index-steps-2.result) (slope_of f 2) (get_or (map ends_of c.args.steps) 2 (ends (pos 0) (pos 0))) c.least-3.result c.index-f-2.is c.index-steps-2.is f2 s2 c.least-3.ensures.value in
    let f3 = entry_is c.args.f.by 3 c.index-f-3.result lf (lit< tt) c.index-f-3.is in
    let s3 = entry_is c.args.steps 3 c.index-steps-3.result ls (lit< tt) c.index-steps-3.is in
    let e3 = step_is c.index-f-3.result (get_or c.args.f.by 3 c.index-f-3.result) c.index-steps-3.result (get_or c.args.steps 3 c.index-steps-3.result) (slope_of f 3) (get_or (map ends_of c.args.steps) 3 (ends (pos 0) (pos 0))) c.least-4.result c.index-f-3.is c.index-steps-3.is f3 s3 c.least-4.ensures.value in
    sum_read at.lo c.least.result c.least-2.result c.least-3.result c.least-4.result at.lo_small c.least.ensures.small c.least-2.ensures.small c.least-3.ensures.small c.least-4.ensures.small
    ∙ low_is f (from_of c.args.steps) (to_of c.args.steps) c.least.result c.least-2.result c.least-3.result c.least-4.result e0 e1 e2 e3

pub overflow_add-result : goal.overflow_add-result
overflow_add-result c =
    let at = c.args.f.at in
    sum_fits at.lo c.least.result c.least-2.result c.least-3.result c.least-4.result at.lo_small c.least.ensures.small c.least-2.ensures.small c.least-3.ensures.small c.least-4.ensures.small

pub returns-clause-holds : goal.returns-clause-holds
returns-clause-holds c d u v s h =
    rw (returns-clause-value c) (low_holds (form_of c.args.f) d u v (from_of c.args.steps) (to_of c.args.steps) (is_form c.args.f).by s h)

pub returns-clause-small : goal.returns-clause-small
returns-clause-small c =
    let l = c.args.f.at.lo_small in
    let a = c.least.ensures.small in
    let b = c.least-2.ensures.small in
    let d = c.least-3.ensures.small in
    let e = c.least-4.ensures.small in
    rw (sum_read c.args.f.at.lo c.least.result c.least-2.result c.least-3.result c.least-4.result l a b d e) (sum_small c.args.f.at.lo c.least.result c.least-2.result c.least-3.result c.least-4.result l a b d e)
