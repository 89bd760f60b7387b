use Rattle.std.proofs.Common.{pos, arith}
use Rattle.log_laws.specs.Sums.{greatest_below}
use Rattle.pr_params.specs.Entries.{ratio_entry}
use Rattle.pr_params.proofs.Below.{greatest_more, greatest_none}
use Rattle.pr_params.proofs.bases.Bases.greatest_ratio.Goals as goal

pub loop-i-init : goal.loop-i-init
loop-i-init c =
    let case = c.args.self.now.case in
    record { value = greatest_none (λ i. greatest_below case.n (ratio_entry case i) (pos 0)); high = omega arith }

pub loop-i-preserved : goal.loop-i-preserved
loop-i-preserved c =
    let case = c.args.self.now.case in
    record {
      value = greatest_more c.loop-i.i (λ i. greatest_below case.n (ratio_entry case i) (pos 0)) c.loop-i.greatest c.greatest_in_row.result c.max-greatest.result
          c.loop-i.invariant.value c.greatest_in_row.ensures.value c.max-greatest.ensures;
      high = omega (arith, c.max-greatest.ensures, c.greatest_in_row.ensures.high, c.loop-i.invariant.high);
    }
