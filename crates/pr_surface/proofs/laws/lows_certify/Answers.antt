use Rattle.pr_surface.proofs.SurfaceBound.{lows_certify}
use Rattle.pr_surface.proofs.laws.lows_certify.Goals as goal

pub returns : goal.returns
returns c = lows_certify
