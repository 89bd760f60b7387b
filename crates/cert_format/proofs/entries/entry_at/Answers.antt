use Rattle.std.proofs.Common.{rules, SFits, pos, to_z, ◌≡◌, length, arith}
use Rattle.std.specs.Int.{w128}
use Rattle.std.proofs.lemmas.Int.{to_z-of_z, to_z_pos}
use Rattle.cert_format.specs.Heads.{says, edition_number}
use Rattle.cert_format.proofs.entries.entry_at.Goals as goal

pub returns-in-Version : goal.returns-in-Version
unfolding says
returns-in-Version c =
    let value : c.from.result ≡ pos c.args.head.now.version = search rules in
    let fits : SFits w128 (pos c.args.head.now.version) = search rules in
    rw c.in-Version.is (simp to_z-of_z at (rw value at c.one.ensures))

pub returns-in-Temperature : goal.returns-in-Temperature
unfolding says
returns-in-Temperature c =
    let value : c.from-in-Temperature.result ≡ pos c.args.head.now.params.case.t = search rules in
    let fits : SFits w128 (pos c.args.head.now.params.case.t) = search rules in
    rw c.in-Temperature.is (simp to_z-of_z at (rw value at c.one-in-Temperature.ensures))

pub returns-in-Pressure : goal.returns-in-Pressure
unfolding says
returns-in-Pressure c =
    let value : c.from-in-Pressure.result ≡ pos c.args.head.now.params.case.p = search rules in
    let fits : SFits w128 (pos c.args.head.now.params.case.p) = search rules in
    rw c.in-Pressure.is (simp to_z-of_z at (rw value at c.one-in-Pressure.ensures))

pub returns-in-Count : goal.returns-in-Count
unfolding says
returns-in-Count c =
    let value : c.from-in-Count.result ≡ pos c.args.head.now.params.case.n = search rules in
    let fits : SFits w128 (pos c.args.head.now.params.case.n) = search rules in
    rw c.in-Count.is (simp to_z-of_z at (rw value at c.one-in-Count.ensures))

pub returns-in-Edition : goal.returns-in-Edition
unfolding says
returns-in-Edition c =
    let value : c.edition_number.result ≡ pos (edition_number c.args.head.now.params.case.edition) = c.edition_number.ensures in
    let fits : SFits w128 (pos (edition_number c.args.head.now.params.case.edition)) = search rules in
    rw c.in-Edition.is (simp to_z-of_z at (rw value at c.one-in-Edition.ensures))

pub returns-in-RootTwo : goal.returns-in-RootTwo
unfolding says
returns-in-RootTwo c =
    let fits : SFits w128 c.args.head.now.params.two.lo = search rules in
    let fits1 : SFits w128 c.args.head.now.params.two.hi = search rules in
    rw c.in-RootTwo.is (simp to_z-of_z at c.two.ensures)

pub returns-in-LogE : goal.returns-in-LogE
unfolding says
returns-in-LogE c =
    let fits : SFits w128 c.args.head.now.params.e.lo = search rules in
    let fits1 : SFits w128 c.args.head.now.params.e.hi = search rules in
    rw c.in-LogE.is (simp to_z-of_z at c.two-in-LogE.ensures)

pub returns-in-Split : goal.returns-in-Split
unfolding says
returns-in-Split c =
    let count : to_z w128 (length c.args.head.now.split.phases.items) ≡ pos (length c.args.head.now.split.phases.items) = search rules in
    let sum : to_z w128 c.args.head.now.split.sum ≡ pos c.args.head.now.split.sum = to_z_pos w128 c.args.head.now.split.sum (omega (arith, c.args.head.now.split.small)) in
    rw c.in-Split.is (rw (c.len.ensures.value, count, sum) at c.two-in-Split.ensures)

pub returns-in-Upper : goal.returns-in-Upper
unfolding says
returns-in-Upper c =
    let fits : SFits w128 c.args.head.now.u = search rules in
    rw c.in-Upper.is (simp to_z-of_z at c.one-in-Upper.ensures)

pub returns-in-Low : goal.returns-in-Low
unfolding says
returns-in-Low c =
    let fits : SFits w128 c.args.head.now.low = search rules in
    rw c.in-Low.is (simp to_z-of_z at c.one-in-Low.ensures)

pub returns-in-Gap : goal.returns-in-Gap
unfolding says
returns-in-Gap c =
    let fits : SFits w128 c.args.head.now.gap = search rules in
    rw c.in-Gap.is (simp to_z-of_z at c.one-in-Gap.ensures)

pub returns-in-Letters : goal.returns-in-Letters
unfolding says
returns-in-Letters c =
    let value : c.from-in-Letters.result ≡ pos c.args.head.now.letters = search rules in
    let fits : SFits w128 (pos c.args.head.now.letters) = search rules in
    rw c.in-Letters.is (simp to_z-of_z at (rw value at c.one-in-Letters.ensures))
