use Rattle.pr_surface.proofs.SurfaceBound.{numbers_bound}
use Rattle.pr_surface.proofs.laws.numbers_bound.Goals as goal

pub returns : goal.returns
returns c = numbers_bound
