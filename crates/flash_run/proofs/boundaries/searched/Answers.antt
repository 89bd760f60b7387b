use Rattle.std.proofs.Common.{refl}
use Rattle.flash_run.proofs.boundaries.searched.Goals as goal

pub returns-in-Ok : goal.returns-in-Ok
returns-in-Ok c bytes case_is =
    let words = c.args.job.now in
    let picked = c.args.picked.now in
    record {
      certified = (words, refl, record { picked = picked; case_is = case_is; by_is = refl; kinds = c.in-Ok.ensures.kinds; encloses = c.in-Ok.ensures.encloses });
      returned = tt;
      cause = (words, refl, record { picked = picked; case_is = case_is; by_is = refl; searched = c.in-Ok.ensures.bisected });
    }
