use Rattle.pr_params.proofs.Pressures.{six_roots}
use Rattle.pr_params.proofs.lifted.pressure_roots.Goals as goal

pub returns : goal.returns
returns c =
    rw (six_roots c.args.case.now, c.pressure_root.ensures, c.pressure_root-2.ensures, c.pressure_root-3.ensures, c.pressure_root-4.ensures, c.pressure_root-5.ensures, c.pressure_root-6.ensures)
