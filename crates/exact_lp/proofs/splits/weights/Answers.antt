use Rattle.std.proofs.Common.{◌≡◌, ℕ, ◌+◌, ◌*◌, ◌^◌, ◌<◌, [], ◌∷◌, unsigned_abs, slice_index, ap, ◌∙◌, arith, rules}
use Rattle.std.proofs.Math.Nat.{mul-pos}
use Rattle.energy_surface.specs.Program.Bases.{system}
use Rattle.exact_lp.specs.Frames.{entry}
use Rattle.exact_lp.proofs.DeterminantRules.{by_place}
use Rattle.exact_lp.proofs.MachineNumbers.{read, entry_fits}
use Rattle.exact_lp.proofs.LiveParts.{frame_size}
use Rattle.exact_lp.proofs.AfterPivot.{spans_above}
use Rattle.exact_lp.proofs.LeavingPlace.{entry_of}
use Rattle.exact_lp.proofs.SplitOfBasis.{weight_read, sum_small, sum_fits}
use Rattle.case_types.proofs.Exports.{total_positive}
use Rattle.exact_lp.proofs.WeightsOfBasis.{weight_within}
use Rattle.exact_lp.proofs.splits.weights.Goals as goal
use Rattle.exact_lp.proofs.splits.weights.Goals.{After-unsigned_abs-4}

pub overflow_mul-result : goal.overflow_mul-result
overflow_mul-result c =
    let f = c.basis_frame-frame.result in
    search (rules, sum_fits c.args.case.now.total f.size c.args.case.now.total_high f.size_small)

-- the numbers as they are read are the sizes of the amounts
sizes : (c : After-unsigned_abs-4) → (k : ℕ) → k < 4 →
    slice_index (c.unsigned_abs.result ∷ c.unsigned_abs-2.result ∷ c.unsigned_abs-3.result ∷ c.unsigned_abs-4.result ∷ []) k ≡ unsigned_abs (entry c.amounts_for.result.u k)
sizes c k h =
    let u = c.amounts_for.result in
    let same = λ (j : ℕ) (l : j < 4). ap unsigned_abs (read (entry u.u j) (entry_fits u.u (2 ^ 80 + 1) j (omega arith) l u.small)) in
    by_place (λ k. slice_index (c.unsigned_abs.result ∷ c.unsigned_abs-2.result ∷ c.unsigned_abs-3.result ∷ c.unsigned_abs-4.result ∷ []) k ≡ unsigned_abs (entry u.u k))
    (c.unsigned_abs.ensures.value ∙ same 0 (omega arith)) (c.unsigned_abs-2.ensures.value ∙ same 1 (omega arith))
    (c.unsigned_abs-3.ensures.value ∙ same 2 (omega arith)) (c.unsigned_abs-4.ensures.value ∙ same 3 (omega arith)) k h

pub returns : goal.returns
returns c =
    let v = c.args.case.now in
    let cols = c.args.columns.now.items in
    let at = c.args.basis.now.at in
    let f = c.basis_frame-frame.result in
    let u = c.amounts_for.result in
    let s = frame_size v.n v.some v.few (system cols at) f.size f.first.a f.second.a f.third.a f.fourth.a c.basis_frame-frame.ensures in
    let some : 0 < f.size = rw s (spans_above v cols at c.requires.basis) in
    let amounts = λ (k : ℕ) (h : k < v.n). entry_of v.n v.some v.few (system cols at) f.size f.first.a f.second.a f.third.a f.fourth.a c.basis_frame-frame.ensures v.z c.live_point.result.x u.u c.live_point.ensures c.amounts_for.ensures k h in
    let weights = λ (k : ℕ) (h : k < v.n). sizes (goal.at.returns c).After-unsigned_abs-4 k (omega (arith, h, v.few)) ∙ ap unsigned_abs (amounts k h) in
    record {
      sum = ap (λ (t : ℕ). v.total * t) s;
      some = mul-pos (total_positive v) some;
      small = omega (arith, sum_small v.total f.size v.total_high f.size_small);
      weights = weights;
      within = λ k h. rw (weights k h, s) (weight_within v cols at c.requires.columns c.requires.basis k h);
      light = λ k h. rw (weights k h) (weight_read v cols at u.u k u.small (omega (arith, h, v.few)) (amounts k h));
    }
