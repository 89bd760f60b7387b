use Rattle.std.proofs.Common.{◌∙◌, ℕ, ℤ, ◌-◌, ◌-ℤ◌, pos, sym, ap, arith, slice_index, slice_index_or}
use Rattle.log_laws.specs.Between.{Ends}
use Rattle.log_laws.proofs.Exports.{back, affine_low-same}
use Rattle.case_types.specs.Arithmetic.Numbers.{numbers_of}
use Rattle.case_types.specs.Arithmetic.Tables.{ends_at}
use Rattle.case_types.specs.Arithmetic.Bounds.{box_of}
use Rattle.pr_params.proofs.CovolumeRange.{low_by}
use Rattle.pr_params.proofs.Sized.{count_of}
use Rattle.pr_params.proofs.covolume_means.low_by_rest.Goals as goal

pub returns-clause-value : goal.returns-clause-value
returns-clause-value c =
    let case = c.args.params.now.case in
    let b = (numbers_of case).covolumes in
    let rest = case.n - 1 in
    let v = c.covolume_of-last.result in
    let lo_small = v.lo_small in
    let hi_small = v.hi_small in
    let all = c.affine_low.ensures.small in
    let lo = ap (λ (w : Ends). w.lo) c.covolume_of-last.ensures.ends in
    let hi = ap (λ (w : Ends). w.hi) c.covolume_of-last.ensures.ends in
    let value = rw (back v.lo (omega (arith, lo_small)), back v.hi (omega (arith, hi_small)), lo, hi) at c.affine_low.ensures.value in
    back c.affine_low.result (omega (arith, all)) ∙ value
    ∙ affine_low-same rest (ends_at b rest).lo (λ i. slice_index_or c.covolumes_low.result i (pos 0) -ℤ (ends_at b rest).hi) (λ i. (ends_at b i).lo -ℤ (ends_at b rest).hi)
    (slice_index c.args.x.now.a) (slice_index c.args.x.now.b) (λ i h. ap (λ (z : ℤ). z -ℤ (ends_at b rest).hi) (c.covolumes_low.ensures.at i (omega (arith, h))))
    ∙ ap (λ (n : ℕ). low_by (n - 1) b (box_of c.args.x.now)) (sym (count_of case))
