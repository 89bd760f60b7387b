use Rattle.std.proofs.Common.{◌^◌, ◌≤◌, ℤ, pos, ◌*ℤ◌, ◌-ℤ◌, unsigned_abs, FitsSigned, arith}
use Rattle.std.specs.Int.{w128}
use Rattle.std.proofs.lemmas.Int.{ints, fits_signed_from_abs}
use Rattle.exact_lp.proofs.MachineNumbers.{read, size_read, cost_read, costly, costly_fits}
use Rattle.exact_lp.proofs.pricing.priced.Goals as goal

difference_fits : (p q : ℤ) → unsigned_abs p ≤ 2 ^ 119 → unsigned_abs q ≤ 2 ^ 121 → FitsSigned w128 (p -ℤ q)
difference_fits p q h k = fits_signed_from_abs w128 (p -ℤ q) (omega (arith, ints, h, k))

pub overflow_mul-result : goal.overflow_mul-result
overflow_mul-result c =
    rw (size_read c.args.size c.requires.size_small, cost_read c.args.cost c.requires.cost_small) (costly_fits (pos c.args.size) c.args.cost c.requires.size_small c.requires.cost_small)

pub overflow_sub-result : goal.overflow_sub-result
overflow_sub-result c =
    rw (size_read c.args.size c.requires.size_small, cost_read c.args.cost c.requires.cost_small, read (pos c.args.size *ℤ c.args.cost) (costly_fits (pos c.args.size) c.args.cost c.requires.size_small c.requires.cost_small), read c.args.paid c.ranges.paid)
    (difference_fits (pos c.args.size *ℤ c.args.cost) c.args.paid (costly (pos c.args.size) c.args.cost c.requires.size_small c.requires.cost_small) c.requires.paid_small)

pub returns : goal.returns
returns c =
    rw (size_read c.args.size c.requires.size_small, cost_read c.args.cost c.requires.cost_small, read (pos c.args.size *ℤ c.args.cost) (costly_fits (pos c.args.size) c.args.cost c.requires.size_small c.requires.cost_small), read c.args.paid c.ranges.paid)
    (read _ (difference_fits (pos c.args.size *ℤ c.args.cost) c.args.paid (costly (pos c.args.size) c.args.cost c.requires.size_small c.requires.cost_small) c.requires.paid_small))
