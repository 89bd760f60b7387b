-- The gas constant times the temperature, which makes joules of energies in units of RT.
use Rattle.std.specs.Prelude.{ℕ, ◌*◌}
use Rattle.log_laws.specs.Fraction.{Fraction}
use Rattle.log_laws.specs.LogSum.{ratio}

-- R in 10^-14 J/(mol K): 8.31446261815324, exact in the SI since 2019
abbrev pub gas_constant : ℕ
gas_constant = 831446261815324

-- its scale
abbrev pub gas_constant_scale : ℕ
gas_constant_scale = 100000000000000

-- RT of one mole in mJ, for a temperature in mK
abbrev pub thermal_energy : ℕ → Fraction
thermal_energy t = ratio (gas_constant * t) gas_constant_scale
