-- The energy surface of Peng and Robinson.
use Rattle.case_types.specs.Arithmetic.Bounds.{energy_low, energy_up}
use Rattle.case_types.specs.Arithmetic.Numbers.{Numbers}
use Rattle.energy_surface.specs.Surfaces.{Surface}
use Rattle.tangent_bound.specs.SlopeLows.{slope_low}

abbrev pub surface_of : Numbers → Surface
surface_of p = record { count = p.count; low = energy_low p; up = energy_up p; slope = slope_low p }
