use Rattle.std.proofs.Common.{nat_le, slice_index, ◌&&◌, ◌^◌}
use Rattle.log_laws.proofs.Exports.{all_below-less}
use Rattle.rachford_rice.proofs.tests.share.Goals as goal

pub rr-requires : goal.rr-requires
rr-requires c =
    let few = c.args.case.now.few in
    record {
      ratios = all_below-less c.args.case.now.n 4 (λ i. nat_le 1 (slice_index c.args.k i) && nat_le (slice_index c.args.k i) (2 ^ 52)) few c.requires;
    }
