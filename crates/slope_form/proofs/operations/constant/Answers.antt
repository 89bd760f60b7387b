use Rattle.std.proofs.Common.{refl}
use Rattle.log_laws.specs.Interval.{ends_of}
use Rattle.slope_form.specs.Forms.{constant_form}
use Rattle.slope_form.proofs.Kept.{constant_kept}
use Rattle.slope_form.proofs.operations.constant.Goals as goal

pub returns-clause-holds : goal.returns-clause-holds
returns-clause-holds c = constant_kept (ends_of c.args.c) (constant_form (ends_of c.args.c)) refl
