use Rattle.std.proofs.Common.{◌≡◌, sym, ◌∙◌, arith}
use Rattle.log_laws.proofs.Exports.{all_below-more, all_below-fails}
use Rattle.case_types.specs.Arithmetic.Numbers.{fits_lifted}
use Rattle.pr_params.proofs.lifting.all_fit.Goals as goal

pub returns-then-not-fits : goal.returns-then-not-fits
returns-then-not-fits c =
    sym (all_below-fails c.args.case.now.n (fits_lifted c.args.case.now c.args.lift) c.loop-i.i c.loop-i-test.true (sym c.fits.ensures ∙ c.if-not-fits.true))

pub loop-i-preserved : goal.loop-i-preserved
loop-i-preserved c = all_below-more c.loop-i.i (fits_lifted c.args.case.now c.args.lift) c.loop-i.invariant (sym c.fits.ensures ∙ c.if-not-fits.false)

pub returns : goal.returns
returns c =
    let end : c.loop-i.i ≡ c.args.case.now.n = omega arith in
    sym (rw end at c.loop-i.invariant)
