use Rattle.std.proofs.Common.{◌≡◌, ap, ◌∙◌, get_or, arith}
use Rattle.std.proofs.lemmas.Int.{ints}
use Rattle.log_laws.specs.Between.{Ends}
use Rattle.log_laws.specs.Interval.{ends_of}
use Rattle.pr_params.specs.Entries.{alpha_entry}
use Rattle.pr_params.proofs.EntryFaults.{alpha_low}
use Rattle.pr_params.proofs.EntrySizes.{alpha_high}
use Rattle.pr_params.proofs.Slots.{slot_at}
use Rattle.pr_params.proofs.bases.Bases.alpha.Goals as goal
use Rattle.pr_params.proofs.bases.Bases.alpha.Goals.{After-index-self-i}

-- the root that is read
is : (c : After-index-self-i) → ends_of (get_or c.args.self.now.m c.args.i c.index-self-i.result) ≡ alpha_entry c.args.self.now.case c.args.i
is c = let s = c.args.self.now in slot_at s.case.n (alpha_entry s.case) s.m c.index-self-i.result c.args.i s.case.few s.alphas c.requires

pub natural_ends-requires : goal.natural_ends-requires
natural_ends-requires c =
    let low = alpha_low c.args.self.now.case c.args.i c.requires c.args.self.now.large in
    let lo = ap (λ (v : Ends). v.lo) (is c) in
    omega (arith, ints, low, lo)

pub returns-clause-ends : goal.returns-clause-ends
returns-clause-ends c = c.natural_ends.ensures.ends ∙ is (goal.at.returns-clause-ends c).After-index-self-i

pub returns-clause-small : goal.returns-clause-small
returns-clause-small c =
    let high = alpha_high c.args.self.now.case c.args.i c.requires in
    let hi = ap (λ (v : Ends). v.hi) (c.natural_ends.ensures.ends ∙ is (goal.at.returns-clause-small c).After-index-self-i) in
    omega (arith, ints, high, hi)
