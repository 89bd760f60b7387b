use Rattle.std.proofs.Common.{rules, ◌≤◌, length, lit<}
use Rattle.slope_form.specs.Forms.{form_of, product_form}
use Rattle.slope_form.specs.Laws.{KeepsProduct, KeepsFractionProduct}
use Rattle.slope_form.proofs.Capped.{entry_is}
use Rattle.slope_form.proofs.Kept.{is_form, if_some}
use Rattle.slope_form.proofs.ProductMeanings.{product_means, fraction_product_means}
use Rattle.slope_form.proofs.operations.mul.Goals as goal

pub returns-clause-value : goal.returns-clause-value
unfolding product_form
returns-clause-value c =
    let lf : 4 ≤ length c.args.f.by = search rules in
    let lg : 4 ≤ length c.args.g.by = search rules in
    let f0 = entry_is c.args.f.by 0 c.index-f-0.result lf (lit< tt) c.index-f-0.is in
    let f1 = entry_is c.args.f.by 1 c.index-f-1.result lf (lit< tt) c.index-f-1.is in
    let f2 = entry_is c.args.f.by 2 c.index-f-2.result lf (lit< tt) c.index-f-2.is in
    let f3 = entry_is c.args.f.by 3 c.index-f-3.result lf (lit< tt) c.index-f-3.is in
    let g0 = entry_is c.args.g.by 0 c.index-g-0.result lg (lit< tt) c.index-g-0.is in
    let g1 = entry_is c.args.g.by 1 c.index-g-1.result lg (lit< tt) c.index-g-1.is in
    let g2 = entry_is c.args.g.by 2 c.index-g-2.result lg (lit< tt) c.index-g-2.is in
    let g3 = entry_is c.args.g.by 3 c.index-g-3.result lg (lit< tt) c.index-g-3.is in
    cc

pub returns-clause-holds : goal.returns-clause-holds
returns-clause-holds c =
    let f = form_of c.args.f in
    let g = form_of c.args.g in
    if_some (KeepsProduct f g) c.form.result (product_form f g) (returns-clause-value c) (λ h e d u v x y m n. product_means f g h d u v x y (is_form c.args.f) (is_form c.args.g) e m n)

pub returns-clause-fraction_holds : goal.returns-clause-fraction_holds
returns-clause-fraction_holds c =
    let f = form_of c.args.f in
    let g = form_of c.args.g in
    if_some (KeepsFractionProduct f g) c.form.result (product_form f g) (returns-clause-value c) (λ h e d u v x y m n. fraction_product_means f g h d u v x y (is_form c.args.f) (is_form c.args.g) e m n)
