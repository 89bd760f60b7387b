use Rattle.std.proofs.Common.{◌≡◌, ◌∙◌, ◌<◌, List, ℤ, Option, Some, None, length, get_or, ap, subst, not, arith}
use Rattle.component_table.proofs.Heats.{there-here, there-more, there-end, below-at, none_of, some_of}
use Rattle.component_table.proofs.capacities.need_cp.Goals as goal

pub overflow_add-result : goal.overflow_add-result
overflow_add-result c =
    let picked = c.args.picked.now in
    let inside : c.loop-k.k < length picked.live.items = omega (arith, c.loop-k-test.true, c.loop-k.auto.k-end, c.len-k-end.ensures.value, picked.as_many, picked.as_many_cps) in
    let below = below-at (length picked.names.items) picked.live.items c.loop-k.k 0 picked.placed inside in
    let few = picked.few_names in
    rw c.deref-then-is_none.ensures.0 (omega (arith, below, few))

pub returns-then-is_none-clause-fault : goal.returns-then-is_none-clause-fault
returns-then-is_none-clause-fault c =
    let picked = c.args.picked.now in
    let here : c.loop-k.k < length picked.cps.items = omega (arith, c.loop-k-test.true, c.loop-k.auto.k-end, c.len-k-end.ensures.value) in
    let inside : c.loop-k.k < length picked.live.items = omega (arith, here, picked.as_many, picked.as_many_cps) in
    let none = subst (λ (cps : List (Option (List ℤ))). get_or cps c.loop-k.k None ≡ None) c.deref.ensures.0 (none_of (get_or c.deref.result.now c.loop-k.k None) c.if-is_none.ensures) in
    rw c.deref-then-is_none.ensures.0 (c.loop-k.invariant ∙ there-here picked.live.items picked.cps.items c.loop-k.k 0 None inside here none)

pub loop-k-preserved : goal.loop-k-preserved
loop-k-preserved c =
    let picked = c.args.picked.now in
    let here : c.loop-k.k < length picked.cps.items = omega (arith, c.loop-k-test.true, c.loop-k.auto.k-end, c.len-k-end.ensures.value) in
    let inside : c.loop-k.k < length picked.live.items = omega (arith, here, picked.as_many, picked.as_many_cps) in
    let some = some_of (get_or c.deref.result.now c.loop-k.k None) (c.is_none.ensures ∙ ap not c.if-is_none.false) in
    let at = subst (λ (cps : List (Option (List ℤ))). get_or cps c.loop-k.k None ≡ Some some.0) c.deref.ensures.0 some.1 in
    c.loop-k.invariant ∙ there-more picked.live.items picked.cps.items c.loop-k.k 0 None some.0 inside here at

pub returns-clause-ok : goal.returns-clause-ok
returns-clause-ok c =
    let picked = c.args.picked.now in
    c.loop-k.invariant ∙ there-end picked.live.items picked.cps.items c.loop-k.k (omega (arith, c.loop-k-test.false, c.loop-k.auto.k-end, picked.as_many, picked.as_many_cps, c.len-k-end.ensures.value))
