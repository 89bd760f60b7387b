-- The logarithm of e to the base 2: what it says that a pair holds it, and the printed pair, in 2 ^ -40.
use Rattle.std.specs.Prelude.{◌+◌, ◌*◌, ◌^◌, pos, ◌<ℤ◌}
use Rattle.log_laws.specs.Between.{Ends}
use Rattle.log_laws.specs.Fraction.{whole}
use Rattle.log_laws.specs.LogSum.{AtLeast, AtMost, times_log, ratio}
use Rattle.log_laws.specs.Squaring.{down, up}
use Rattle.log_laws.specs.Whole.{ceil_div}

-- log2 e lies between the ends, since e lies between (1 + 1/M)^M and (1 + 1/M)^(M+1), with M = 2 ^ 24
pub record HoldsLogE (v : Ends) : Type 0 where
  pub positive : pos 0 <ℤ v.lo
  pub positive_above : pos 0 <ℤ v.hi
  pub above : AtLeast (times_log (whole (pos (2 ^ 24))) (ratio (2 ^ 24 + 1) (2 ^ 24))) (record { num = v.lo; den = 2 ^ 40 })
  pub below : AtMost (times_log (whole (pos (2 ^ 24 + 1))) (ratio (2 ^ 24 + 1) (2 ^ 24))) (record { num = v.hi; den = 2 ^ 40 })

-- M times the logarithm of 1 + 1/M down, and M + 1 times it up
abbrev pub log_e_ends : Ends
log_e_ends = record {
  lo = pos (2 ^ 10 * down (2 ^ 61 + 2 ^ 37) 54);
  hi = ceil_div (pos ((2 ^ 24 + 1) * up (2 ^ 61 + 2 ^ 37) 54)) (pos (2 ^ 14));
}
