use Rattle.std.proofs.Common.{◌≡◌, ◌<◌, length, sym, ap, ◌∙◌, arith}
use Rattle.pr_params.specs.Entries.{pressure_entry}
use Rattle.pr_params.proofs.Pressures.{root_read, pressure_before, pressure_after, pressure_own}
use Rattle.pr_params.proofs.lifted.Lifted.pressure_root_of.Goals as goal

pub returns-then-i-j : goal.returns-then-i-j
returns-then-i-j c =
    let s = c.args.self.now in
    let inside : c.place_of.result < length s.q = omega arith in
    root_read s.case s.q c.index-self-place_of.result c.place_of.result c.args.i c.args.j s.printed inside c.place_of.ensures.value c.if-i-j.true c.requires.other_live
    ∙ sym (pressure_before s.case c.args.i c.args.j c.if-i-j.true c.requires.other_live)

pub returns-then-j-i : goal.returns-then-j-i
returns-then-j-i c =
    let s = c.args.self.now in
    let place = c.place_of-then-j-i in
    let inside : place.result < length s.q = omega arith in
    root_read s.case s.q c.index-self-place_of-then-j-i.result place.result c.args.j c.args.i s.printed inside place.ensures.value c.if-j-i.true c.requires.live
    ∙ sym (pressure_after s.case c.args.i c.args.j c.if-j-i.true c.requires.live)

pub returns-else-j-i : goal.returns-else-j-i
returns-else-j-i c =
    let s = c.args.self.now in
    let same : c.args.j ≡ c.args.i = omega (arith, c.if-i-j.false, c.if-j-i.false) in
    rw (c.interval.ensures.lo, c.interval.ensures.hi, c.row_at.ensures.pc)
    (sym (ap (λ j. pressure_entry s.case c.args.i j) same ∙ pressure_own s.case c.args.i))
