use Rattle.std.proofs.Common.{◌∙◌, ap}
use Rattle.log_laws.specs.Between.{Ends}
use Rattle.case_types.specs.Arithmetic.Bounds.{covolume_range}
use Rattle.case_types.specs.Arithmetic.Numbers.{numbers_of}
use Rattle.slope_form.specs.Arithmetic.{capped}
use Rattle.tangent_bound.specs.SlopeLows.{outward}
use Rattle.tangent_bound.proofs.slope_means.covolume_range.Goals as goal

pub returns : goal.returns
returns c = λ r are.
    c.capped_again.ensures
    ∙ ap (λ (v : Ends). capped v.lo v.hi) (c.outward.ensures ∙ ap (outward c.args.shift) (c.b_range.ensures.ends ∙ ap (covolume_range (numbers_of c.args.params.now.case)) are.ends))
