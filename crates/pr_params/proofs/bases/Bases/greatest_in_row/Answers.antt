use Rattle.std.proofs.Common.{ap, sym, arith}
use Rattle.std.proofs.lemmas.Int.{ints}
use Rattle.log_laws.specs.Between.{Ends}
use Rattle.pr_params.specs.Entries.{ratio_entry}
use Rattle.pr_params.proofs.Below.{greatest_more, greatest_none}
use Rattle.pr_params.proofs.EntryFaults.{attraction_below}
use Rattle.pr_params.proofs.Placed.{ratio_made}
use Rattle.pr_params.proofs.bases.Bases.greatest_in_row.Goals as goal

pub loop-j-init : goal.loop-j-init
loop-j-init c = record { value = greatest_none (ratio_entry c.args.self.now.case c.args.i); high = omega arith }

pub ratio_of-requires-clause-ordered : goal.ratio_of-requires-clause-ordered
ratio_of-requires-clause-ordered c =
    let below = attraction_below c.args.self.now.case c.args.i c.loop-j.j c.requires.live c.loop-j-test.true c.requires.accepted in
    let hi = ap (λ (v : Ends). v.hi) c.attraction-attraction.ensures.ends in
    omega (arith, ints, below, hi, c.covolume_lo-covolume.ensures.value)

pub loop-j-preserved : goal.loop-j-preserved
loop-j-preserved c =
    let case = c.args.self.now.case in
    let hi = ap (λ (v : Ends). v.hi) c.attraction-attraction.ensures.ends in
    let ratio = ratio_made case c.args.i c.loop-j.j c.attraction-attraction.result.1 c.covolume_lo-covolume.result c.ratio_of.result c.covolume_lo-covolume.ensures.positive
    (sym hi) (sym c.covolume_lo-covolume.ensures.value) c.ratio_of.ensures.value in
    record {
      value = greatest_more c.loop-j.j (ratio_entry case c.args.i) c.loop-j.greatest c.ratio_of.result c.max-greatest.result c.loop-j.invariant.value ratio c.max-greatest.ensures;
      high = omega (arith, c.max-greatest.ensures, c.ratio_of.ensures.high, c.loop-j.invariant.high);
    }
