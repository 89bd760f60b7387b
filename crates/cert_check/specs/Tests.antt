-- What a certificate is tested for beside its form, in the order of the tests.
use Rattle.std.specs.Prelude.{ℕ, ◌+◌, ◌*◌, ◌==◌, ◌&&◌, ◌-ℤ◌, map, Bool, not, is_some, if◌then◌else◌, Option, Some, None}
use Rattle.std.specs.Ordering.{int_eq}
use Rattle.std.specs.Option.{option_map}
use Rattle.log_laws.specs.Between.{Ends}
use Rattle.log_laws.specs.Interval.{ends_of}
use Rattle.log_laws.specs.Sums.{all_below}
use Rattle.case_types.specs.Arithmetic.Bounds.{energy_up, plane_at}
use Rattle.case_types.specs.Arithmetic.Faults.{fault_of, or_else, first_below}
use Rattle.case_types.specs.Arithmetic.Numbers.{numbers_of, enclosures_of}
use Rattle.case_types.specs.Arithmetic.Splits.{split_up}
use Rattle.case_types.specs.Arithmetic.Tables.{ends_at}
use Rattle.case_types.specs.Energy.Components.{feed}
use Rattle.case_types.specs.Energy.Divisions.{parts_in, division_of}
use Rattle.case_types.specs.Energy.Instances.{Enclosures, pair_place}
use Rattle.case_types.specs.Grid.Cells.{Region, Mark}
use Rattle.cert_format.specs.declared.heads.CertParams.{CertParams}
use Rattle.cert_format.specs.declared.heads.Head.{Head}
use Rattle.cert_letters.specs.Bounds.{leaf_test}
use Rattle.energy_surface.specs.Surfaces.{Surface}
use Rattle.pr_surface.specs.PengRobinson.{surface_of}
use Rattle.cert_check.specs.declared.broken.Broken.{Broken}
use Rattle.cert_check.specs.declared.broken.Broken.TheVariants.{Params, Balance, Energy, Gap}

-- ---- the parameters
abbrev pub are_same : Ends → Ends → Bool
are_same v w = int_eq v.lo w.lo && int_eq v.hi w.hi

-- the stated pairs of live components are these
abbrev pub states_pairs : CertParams → Enclosures → Bool
states_pairs p e =
    are_same (ends_of p.two) e.root_two
    && are_same (ends_of p.e) e.log_e
    && all_below p.case.n (λ i. are_same (ends_at (map ends_of p.t) i) (ends_at e.temperature_roots i))
    && all_below p.case.n (λ j. all_below j (λ i. are_same (ends_at (map ends_of p.q) (pair_place i j)) (ends_at e.pressure_roots (pair_place i j))))

-- the case breaks no range of the parameters, and the stated pairs are its own
unfoldable pub are_good_params : CertParams → Bool
are_good_params p = not (is_some (fault_of p.case)) && states_pairs p (enclosures_of p.case)

-- ---- the split, its energy and the gap
-- the parts of a component in all phases are its share of the feed
abbrev pub adds_up_at : Head → ℕ → Bool
adds_up_at h i = h.params.case.total * parts_in (division_of h.split).phases i == feed h.params.case i * h.split.sum

-- the first component, from 1, whose parts aren't
unfoldable pub first_unbalanced : Head → Option ℕ
first_unbalanced h = first_below h.params.case.n (λ i. if adds_up_at h i then None else Some (i + 1))

abbrev pub is_energy : Head → Bool
is_energy h = int_eq h.u (split_up h.params.case.n (energy_up (numbers_of h.params.case)) h.split)

abbrev pub is_gap : Head → Bool
is_gap h = int_eq h.gap ((h.u -ℤ plane_at h.params.case.n h.plane.lam h.params.case.z h.params.case.total) -ℤ h.low)

-- ---- the first test that breaks
abbrev pub unless : Bool → Broken → Option Broken
unless b broken = if b then None else Some broken

unfoldable pub first_broken : Head → Option Broken
first_broken h =
    or_else (unless (are_good_params h.params) Params)
    (or_else (option_map Balance (first_unbalanced h))
    (or_else (unless (is_energy h) Energy)
    (unless (is_gap h) Gap)))

-- ---- the leaves
abbrev pub surface_in : Head → Surface
surface_in h = surface_of (numbers_of h.params.case)

-- the leaf is as its letter says, and its low is at least the stated one
abbrev pub passes : Head → Region → Mark → Bool
passes h = leaf_test (surface_in h) h.plane.lam h.low
