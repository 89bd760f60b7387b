use Rattle.std.proofs.Common.{◌≡◌, ◌<◌, true, false, pos, FitsSigned, arith, rules}
use Rattle.std.specs.Prelude.{nat_lt}
use Rattle.std.specs.Int.{w128}
use Rattle.std.proofs.lemmas.Bool.Decides.{nat_tests}
use Rattle.std.proofs.lemmas.Int.{ints}
use Rattle.energy_surface.specs.Program.Bases.{system, costs_of}
use Rattle.energy_surface.specs.Program.Solutions.{size, slope}
use Rattle.exact_lp.proofs.MachineNumbers.{read}
use Rattle.exact_lp.proofs.LiveParts.{frame_size}
use Rattle.exact_lp.proofs.AfterPivot.{spans_above}
use Rattle.exact_lp.proofs.SlopeBounds.{entry_below}
use Rattle.exact_lp.proofs.PlaneEntries.{slope_paid, slope_small}
use Rattle.exact_lp.proofs.planes.entry.Goals as goal

pub scaled_floor-requires-clause-some : goal.scaled_floor-requires-clause-some
scaled_floor-requires-clause-some c =
    let v = c.args.case.now in
    let f = c.args.frame.now in
    let m = system c.args.columns.now.items c.args.basis.now.at in
    omega (arith, frame_size v.n v.some v.few m f.size f.first.a f.second.a f.third.a f.fourth.a c.requires.frame, spans_above v c.args.columns.now.items c.args.basis.now.at c.requires.basis)

pub scaled_floor-requires-clause-size_small : goal.scaled_floor-requires-clause-size_small
scaled_floor-requires-clause-size_small c = c.args.frame.now.size_small

pub scaled_floor-requires-clause-y_small : goal.scaled_floor-requires-clause-y_small
scaled_floor-requires-clause-y_small c =
    let v = c.args.case.now in
    let cols = c.args.columns.now.items in
    let at = c.args.basis.now.at in
    let f = c.args.frame.now in
    let inside : c.args.i < v.n = grind (arith, nat_tests) in
    let fits : FitsSigned w128 c.paid.result = search rules in
    let e = rw (c.requires.costs, c.unit.ensures) at c.paid.ensures.value in
    let is = slope_paid v.n v.some v.few cols at f.size f.first.a f.second.a f.third.a f.fourth.a c.requires.frame (spans_above v cols at c.requires.basis) c.args.i inside in
    let s = frame_size v.n v.some v.few (system cols at) f.size f.first.a f.second.a f.third.a f.fourth.a c.requires.frame in
    rw (read c.paid.result fits, e, is, s) (slope_small v cols at c.requires.columns c.requires.basis c.requires.optimal c.args.i inside)

pub returns-then-i-case-clause-value : goal.returns-then-i-case-clause-value
returns-then-i-case-clause-value c =
    let v = c.args.case.now in
    let cols = c.args.columns.now.items in
    let at = c.args.basis.now.at in
    let f = c.args.frame.now in
    let inside : c.args.i < v.n = grind (arith, nat_tests) in
    let test : nat_lt c.args.i v.n ≡ true = grind (arith, nat_tests) in
    let fits : FitsSigned w128 c.paid.result = search rules in
    let done : FitsSigned w128 c.scaled_floor.result = search rules in
    let e = rw (c.requires.costs, c.unit.ensures) at c.paid.ensures.value in
    let is = slope_paid v.n v.some v.few cols at f.size f.first.a f.second.a f.third.a f.fourth.a c.requires.frame (spans_above v cols at c.requires.basis) c.args.i inside in
    let s = frame_size v.n v.some v.few (system cols at) f.size f.first.a f.second.a f.third.a f.fourth.a c.requires.frame in
    rw (test, read c.scaled_floor.result done) (rw (read c.paid.result fits, e, is, s) at c.scaled_floor.ensures)

pub returns-then-i-case-clause-small : goal.returns-then-i-case-clause-small
returns-then-i-case-clause-small c =
    let v = c.args.case.now in
    let cols = c.args.columns.now.items in
    let at = c.args.basis.now.at in
    let f = c.args.frame.now in
    let inside : c.args.i < v.n = grind (arith, nat_tests) in
    let fits : FitsSigned w128 c.paid.result = search rules in
    let done : FitsSigned w128 c.scaled_floor.result = search rules in
    let e = rw (c.requires.costs, c.unit.ensures) at c.paid.ensures.value in
    let is = slope_paid v.n v.some v.few cols at f.size f.first.a f.second.a f.third.a f.fourth.a c.requires.frame (spans_above v cols at c.requires.basis) c.args.i inside in
    let s = frame_size v.n v.some v.few (system cols at) f.size f.first.a f.second.a f.third.a f.fourth.a c.requires.frame in
    let value = rw (read c.paid.result fits, e, is, s) at c.scaled_floor.ensures in
    rw (read c.scaled_floor.result done, value)
    (entry_below (slope v.n (system cols at) (costs_of cols at) c.args.i) (size v.n (system cols at)) (spans_above v cols at c.requires.basis) (slope_small v cols at c.requires.columns c.requires.basis c.requires.optimal c.args.i inside))

pub returns-else-i-case-clause-value : goal.returns-else-i-case-clause-value
returns-else-i-case-clause-value c =
    let test : nat_lt c.args.i c.args.case.now.n ≡ false = grind (arith, nat_tests) in
    rw test refl_zero
  where
    refl_zero : pos 0 ≡ pos 0
    refl_zero = omega (arith, ints)

pub returns-else-i-case-clause-small : goal.returns-else-i-case-clause-small
returns-else-i-case-clause-small c = omega arith
