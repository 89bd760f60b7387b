use Rattle.std.proofs.Common.{◌≡◌, ℕ, ◌+◌, ◌^◌, ◌<◌, slice_index, FitsSigned, inr, arith, rules}
use Rattle.std.specs.Int.{w128}
use Rattle.std.proofs.lemmas.Bool.Decides.{nat_tests}
use Rattle.exact_lp.specs.Frames.{entry}
use Rattle.exact_lp.specs.declared.pivoting.Amounts.{Amounts}
use Rattle.exact_lp.proofs.MachineNumbers.{entry_fits, not_positive_by, positive_by}
use Rattle.exact_lp.proofs.Ratios.{best_without, best_first, best_replaced, best_kept, best_seen, none_seen}
use Rattle.exact_lp.proofs.pivoting.better.Goals as goal

fits : (a : Amounts) (k : ℕ) → k < 4 → FitsSigned w128 (entry a.u k)
fits a k h = entry_fits a.u (2 ^ 80 + 1) k (omega arith) h a.small

pub offset_bounds-x-k : goal.offset_bounds-x-k
offset_bounds-x-k c = search rules

pub bounds-x-k : goal.bounds-x-k
bounds-x-k c = omega (arith, c.requires.place, c.requires.few)

pub returns-then-x-k-le0 : goal.returns-then-x-k-le0
returns-then-x-k-le0 c =
    let here = not_positive_by (entry c.args.x.now.u c.args.k) (fits c.args.x.now c.args.k (omega (arith, c.requires.place, c.requires.few))) c.if-x-k-le0.true in
    best_without (entry c.args.z.now.u) (entry c.args.x.now.u) (slice_index c.args.at.now) c.args.n c.args.k c.args.best c.requires.so_far here

pub returns-then-best-n : goal.returns-then-best-n
returns-then-best-n c =
    let here = positive_by (entry c.args.x.now.u c.args.k) (fits c.args.x.now c.args.k (omega (arith, c.requires.place, c.requires.few))) c.if-x-k-le0.false in
    let e : c.args.best ≡ c.args.n = grind (arith, nat_tests) in
    inr (best_first (entry c.args.z.now.u) (entry c.args.x.now.u) (slice_index c.args.at.now) c.args.k
    (none_seen (entry c.args.z.now.u) (entry c.args.x.now.u) (slice_index c.args.at.now) c.args.n c.args.k c.args.best c.requires.so_far e (omega (arith, c.requires.place))) here)

pub is_earlier-requires-clause-k : goal.is_earlier-requires-clause-k
is_earlier-requires-clause-k c = omega (arith, c.requires.place, c.requires.few)

pub is_earlier-requires-clause-b : goal.is_earlier-requires-clause-b
is_earlier-requires-clause-b c =
    let apart : (c.args.best ≡ c.args.n → ⊥) = grind (arith, nat_tests) in
    let some = best_seen (entry c.args.z.now.u) (entry c.args.x.now.u) (slice_index c.args.at.now) c.args.n c.args.k c.args.best c.requires.so_far apart in
    omega (arith, some.1, c.requires.place, c.requires.few)

pub is_earlier-requires-clause-k_takes : goal.is_earlier-requires-clause-k_takes
is_earlier-requires-clause-k_takes c =
    positive_by (entry c.args.x.now.u c.args.k) (fits c.args.x.now c.args.k (omega (arith, c.requires.place, c.requires.few))) c.if-x-k-le0.false

pub is_earlier-requires-clause-b_takes : goal.is_earlier-requires-clause-b_takes
is_earlier-requires-clause-b_takes c =
    let apart : (c.args.best ≡ c.args.n → ⊥) = grind (arith, nat_tests) in
    (best_seen (entry c.args.z.now.u) (entry c.args.x.now.u) (slice_index c.args.at.now) c.args.n c.args.k c.args.best c.requires.so_far apart).0

pub returns-then-is_earlier : goal.returns-then-is_earlier
returns-then-is_earlier c =
    let apart : (c.args.best ≡ c.args.n → ⊥) = grind (arith, nat_tests) in
    let some = best_seen (entry c.args.z.now.u) (entry c.args.x.now.u) (slice_index c.args.at.now) c.args.n c.args.k c.args.best c.requires.so_far apart in
    let here = positive_by (entry c.args.x.now.u c.args.k) (fits c.args.x.now c.args.k (omega (arith, c.requires.place, c.requires.few))) c.if-x-k-le0.false in
    inr (best_replaced (entry c.args.z.now.u) (entry c.args.x.now.u) (slice_index c.args.at.now) c.args.k c.args.best some here c.if-is_earlier.ensures)

pub returns-else-is_earlier : goal.returns-else-is_earlier
returns-else-is_earlier c =
    let apart : (c.args.best ≡ c.args.n → ⊥) = grind (arith, nat_tests) in
    let some = best_seen (entry c.args.z.now.u) (entry c.args.x.now.u) (slice_index c.args.at.now) c.args.n c.args.k c.args.best c.requires.so_far apart in
    let here = positive_by (entry c.args.x.now.u c.args.k) (fits c.args.x.now c.args.k (omega (arith, c.requires.place, c.requires.few))) c.if-x-k-le0.false in
    inr (best_kept (entry c.args.z.now.u) (entry c.args.x.now.u) (slice_index c.args.at.now) c.args.k c.args.best some here c.if-is_earlier.ensures)
