use Rattle.std.proofs.Common.{◌≡◌, List, ap, ◌∙◌, get_or, arith}
use Rattle.std.proofs.lemmas.Int.{ints}
use Rattle.log_laws.specs.Between.{Ends}
use Rattle.log_laws.specs.declared.iv.Iv.{Iv}
use Rattle.log_laws.specs.Interval.{ends_of}
use Rattle.pr_params.specs.Entries.{bare_entry, ends_of_all}
use Rattle.pr_params.proofs.EntrySizes.{bare_low, bare_high}
use Rattle.pr_params.proofs.Slots.{row_slot_at, pair_slot_at}
use Rattle.pr_params.proofs.bases.Bases.bare.Goals as goal
use Rattle.pr_params.proofs.bases.Bases.bare.Goals.{After-index-row-j}

-- the attraction that is read
is : (c : After-index-row-j) → ends_of (get_or c.in-Some.row.now c.args.j c.index-row-j.result) ≡ bare_entry c.args.self.now.case c.args.i c.args.j
is c =
    let s = c.args.self.now in
    let row : c.in-Some.row.now ≡ get_or s.h c.args.i c.in-Some.row.now = c.in-Some.ensures.lookup.1 in
    pair_slot_at s.case.n (bare_entry s.case) c.in-Some.row.now c.index-row-j.result c.args.i c.args.j s.case.few
    (ap (λ (r : List Iv). ends_of_all r) row ∙ row_slot_at s.case.n (bare_entry s.case) s.h c.in-Some.row.now c.args.i s.case.few s.bares c.requires.live)
    c.requires.live c.requires.other_live

pub natural_ends-requires : goal.natural_ends-requires
natural_ends-requires c =
    let low = bare_low c.args.self.now.case c.args.i c.args.j c.requires.live c.requires.other_live in
    let lo = ap (λ (v : Ends). v.lo) (is c) in
    omega (arith, ints, low, lo)

pub returns-in-Some-clause-ends : goal.returns-in-Some-clause-ends
returns-in-Some-clause-ends c = c.natural_ends.ensures.ends ∙ is (goal.at.returns-in-Some-clause-ends c).After-index-row-j

pub returns-in-Some-clause-small : goal.returns-in-Some-clause-small
returns-in-Some-clause-small c =
    let s = c.args.self.now in
    let high = bare_high s.case c.args.i c.args.j s.range c.requires.live c.requires.other_live in
    let hi = ap (λ (v : Ends). v.hi) (c.natural_ends.ensures.ends ∙ is (goal.at.returns-in-Some-clause-small c).After-index-row-j) in
    omega (arith, ints, high, hi)
