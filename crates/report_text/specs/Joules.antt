-- Energies in joules.
use Rattle.std.specs.Prelude.{ℕ, ◌*◌, ◌^◌, ℤ, pos, ◌*ℤ◌}
use Rattle.log_laws.specs.Whole.{ceil_div, ceil_quotient}
use Rattle.pr_params.specs.Thermal.{gas_constant, gas_constant_scale}

-- RT of one mole at most, in 2^-20 mJ, for a temperature in mK
abbrev pub heat_at_most : ℕ → ℕ
heat_at_most t = ceil_quotient (gas_constant * t * 2 ^ 20) gas_constant_scale

-- an energy in 2^-40 bit as mJ of one mole, up: times RT at most, over log2 e at least, which is in 2^-40
abbrev pub millijoules : ℤ → ℕ → ℤ → ℤ
millijoules energy t log_e = ceil_div (energy *ℤ pos (heat_at_most t)) (pos (2 ^ 20) *ℤ log_e)
