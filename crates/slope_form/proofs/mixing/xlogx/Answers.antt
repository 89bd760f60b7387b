use Rattle.std.proofs.Common.{refl, arith, subst, sym, pos, ◌≡◌, to_z}
use Rattle.std.specs.Int.{w128}
use Rattle.std.proofs.lemmas.Int.{to_z_pos}
use Rattle.log_laws.specs.LogE.{HoldsLogE}
use Rattle.log_enclose.proofs.Exports.{holds_log_e_ends}
use Rattle.log_laws.specs.Interval.{ends_of}
use Rattle.slope_form.specs.Arithmetic.{log_of_ends}
use Rattle.slope_form.specs.Forms.{x_log_x_ends}
use Rattle.slope_form.proofs.Bends.{if_two, x_log_x_kept}
use Rattle.slope_form.proofs.mixing.xlogx.Goals as goal

pub returns-then-m-eq0-clause-value : goal.returns-then-m-eq0-clause-value
unfolding x_log_x_ends log_of_ends
returns-then-m-eq0-clause-value c = rw c.if-m-eq0.true refl

pub returns-clause-value : goal.returns-clause-value
unfolding x_log_x_ends
returns-clause-value c =
    let low = c.requires.low in
    let high = c.requires.high in
    let top = c.requires.top in
    let m : to_z w128 c.args.m ≡ pos c.args.m = to_z_pos w128 c.args.m (omega (arith, low, high, top)) in
    let log = rw m at c.logarithm-log.ensures in
    let value = rw m at c.value_at.ensures in
    let slope = c.slope_at.ensures in
    let bend = c.bend.ensures in
    rw (c.two.ensures, value, slope, log, bend) refl

pub returns-clause-holds : goal.returns-clause-holds
returns-clause-holds c =
    let a = c.args.a in
    let b = c.args.b in
    let m = c.args.m in
    let e = ends_of c.args.e in
    if_two a b m c.two.result (x_log_x_ends a b m e) (returns-clause-value c)
    (λ at by q. x_log_x_kept a b m e at by c.requires.low c.requires.high c.requires.top (subst HoldsLogE (sym c.requires.e) holds_log_e_ends) c.args.e.ordered q)
