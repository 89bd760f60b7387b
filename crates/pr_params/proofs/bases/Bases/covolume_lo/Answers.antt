use Rattle.std.proofs.Common.{◌≡◌, ap, ◌∙◌, get_or, arith}
use Rattle.std.proofs.lemmas.Int.{ints}
use Rattle.log_laws.specs.Between.{Ends}
use Rattle.log_laws.specs.Interval.{ends_of}
use Rattle.pr_params.specs.Entries.{covolume_entry}
use Rattle.pr_params.proofs.EntrySizes.{covolume_positive}
use Rattle.pr_params.proofs.Slots.{slot_at}
use Rattle.pr_params.proofs.bases.Bases.covolume_lo.Goals as goal
use Rattle.pr_params.proofs.bases.Bases.covolume_lo.Goals.{After-index-self-i}

-- the co-volume that is read
is : (c : After-index-self-i) → ends_of (get_or c.args.self.now.b c.args.i c.index-self-i.result) ≡ covolume_entry c.args.self.now.case c.args.i
is c = let s = c.args.self.now in slot_at s.case.n (covolume_entry s.case) s.b c.index-self-i.result c.args.i s.case.few s.covolumes c.requires

pub natural_ends-lo-requires : goal.natural_ends-lo-requires
natural_ends-lo-requires c =
    let low = covolume_positive c.args.self.now.case c.args.i c.requires in
    let lo = ap (λ (v : Ends). v.lo) (is c) in
    omega (arith, ints, low, lo)

pub returns-clause-value : goal.returns-clause-value
returns-clause-value c = ap (λ (v : Ends). v.lo) (c.natural_ends-lo.ensures.ends ∙ is (goal.at.returns-clause-value c).After-index-self-i)

pub returns-clause-positive : goal.returns-clause-positive
returns-clause-positive c =
    let low = covolume_positive c.args.self.now.case c.args.i c.requires in
    let lo = ap (λ (v : Ends). v.lo) (c.natural_ends-lo.ensures.ends ∙ is (goal.at.returns-clause-positive c).After-index-self-i) in
    omega (arith, ints, low, lo)
