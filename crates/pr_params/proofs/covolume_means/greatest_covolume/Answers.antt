use Rattle.std.proofs.Common.{◌≡◌, ◌∙◌, sym, ap, arith, ℕ, ℤ}
use Rattle.std.proofs.lemmas.Int.{ints, clamps}
use Rattle.log_laws.specs.Between.{Ends}
use Rattle.log_laws.proofs.Exports.{back, greatest-none, greatest-more}
use Rattle.log_laws.specs.Sums.{greatest_below}
use Rattle.std.specs.Int.{int_max}
use Rattle.case_types.specs.Arithmetic.Numbers.{numbers_of}
use Rattle.case_types.specs.Arithmetic.Tables.{ends_at}
use Rattle.pr_params.proofs.covolume_means.greatest_covolume.Goals as goal

pub loop-i-init : goal.loop-i-init
loop-i-init c =
    let v = c.covolume_of-greatest.result in
    let low = c.covolume_of-greatest.ensures.low in
    let high = c.covolume_of-greatest.ensures.high in
    let order = v.ordered in
    let read = back v.hi (omega (arith, ints, low, high, order)) in (
      read ∙ ap (λ (e : Ends). e.hi) c.covolume_of-greatest.ensures.ends ∙ sym (greatest-none (λ i. (ends_at (numbers_of c.args.params.now.case).covolumes i).hi) (ends_at (numbers_of c.args.params.now.case).covolumes 0).hi),
      rw read (omega (arith, ints, low, high, order)),
      rw read (omega (arith, ints, low, high, order)),
    )

pub loop-i-preserved : goal.loop-i-preserved
loop-i-preserved c =
    let b = (numbers_of c.args.params.now.case).covolumes in
    let v = c.covolume_of.result in
    let low = c.covolume_of.ensures.low in
    let high = c.covolume_of.ensures.high in
    let order = v.ordered in
    let before = c.loop-i.invariant in
    let read = back v.hi (omega (arith, ints, low, high, order)) in
    let e = rw read at c.greater-greatest.ensures.value in
    let size = c.greater-greatest.ensures.small in
    let again = back c.greater-greatest.result (omega (arith, size)) in
    let here = ap (λ (w : Ends). w.hi) c.covolume_of.ensures.ends in
    let value = again ∙ e ∙ ap (λ (z : ℤ). int_max z v.hi) before.0 ∙ ap (λ (z : ℤ). int_max (greatest_below c.loop-i.i (λ i. (ends_at b i).hi) (ends_at b 0).hi) z) here
    ∙ sym (greatest-more c.loop-i.i (λ i. (ends_at b i).hi) (ends_at b 0).hi) in
    let from = before.1 in
    let to = before.2 in
    (value, rw (again, e) (omega (arith, ints, clamps, from, to, low, high, order)), rw (again, e) (omega (arith, ints, clamps, from, to, low, high, order)))

pub returns-clause-value : goal.returns-clause-value
returns-clause-value c =
    let last : c.loop-i.i ≡ c.args.params.now.case.n = omega (arith, c.loop-i-test.false, c.loop-i.auto.i-end) in
    c.loop-i.invariant.0 ∙ ap (λ (k : ℕ). greatest_below k (λ i. (ends_at (numbers_of c.args.params.now.case).covolumes i).hi) (ends_at (numbers_of c.args.params.now.case).covolumes 0).hi) last
