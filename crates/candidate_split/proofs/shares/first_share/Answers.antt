use Rattle.log_laws.proofs.Exports.{all_below-less}
use Rattle.candidate_split.proofs.Ratios.{four_ratios}
use Rattle.candidate_split.proofs.shares.first_share.Goals as goal

pub rr-requires : goal.rr-requires
rr-requires c = record {
  ratios = all_below-less c.args.case.now.n 4 _ c.args.case.now.few (four_ratios c.ratio.result c.ratio-2.result c.ratio-3.result c.ratio-4.result
      c.ratio.ensures.some c.ratio.ensures.most c.ratio-2.ensures.some c.ratio-2.ensures.most c.ratio-3.ensures.some c.ratio-3.ensures.most c.ratio-4.ensures.some c.ratio-4.ensures.most);
}
