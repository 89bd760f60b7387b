use Rattle.std.proofs.Common.{◌∙◌, ap, sym, ◌^◌, pos}
use Rattle.log_laws.specs.Between.{Ends}
use Rattle.log_laws.specs.Interval.{ends}
use Rattle.log_laws.specs.Whole.{floor_div, ceil_div}
use Rattle.pr_params.proofs.Exports.{two_exact}
use Rattle.slope_form.specs.Forms.{constant_form}
use Rattle.tangent_bound.proofs.slope_lows.half_root_form.Goals as goal

pub returns : goal.returns
returns c = λ case.
    c.constant.ensures.value
    ∙ ap (λ (v : Ends). constant_form (ends (floor_div (pos (2 ^ 99)) v.hi) (ceil_div (pos (2 ^ 99)) v.lo))) (sym (two_exact case))
