-- The constants of a cell's form lie between the ends that stand for them, whatever the instance.
use Rattle.std.proofs.Common.{ℕ, ◌*◌, ◌^◌, ◌≤◌, ◌<◌, ◌≡◌, None, arith, lit<, pos}
use Rattle.std.proofs.lemmas.Int.{ints}
use Rattle.log_laws.specs.Between.{Ends, IsBetween}
use Rattle.log_laws.specs.Fraction.{Fraction, whole, product_of, inverse}
use Rattle.log_laws.specs.Interval.{ends}
use Rattle.log_laws.specs.LogSum.{IsPositive, ratio}
use Rattle.log_laws.specs.Whole.{floor_div, ceil_div}
use Rattle.log_laws.proofs.Exports.{by_ratio, order_of_ratios}
use Rattle.case_types.specs.declared.cases.Case.{Case}
use Rattle.case_types.specs.Arithmetic.Bounds.{one}
use Rattle.case_types.specs.Arithmetic.Faults.{fault_of}
use Rattle.case_types.specs.Arithmetic.Numbers.{numbers_of, enclosures_of}
use Rattle.case_types.specs.Energy.Instances.{Instance, IsInstance}
use Rattle.slope_form.specs.Forms.{point_ends}
use Rattle.pr_params.proofs.Exports.{e_exact, enclosures_right, ends_ordered, holds_parameters, lift_small, log_e_of_numbers, positive_between, two_exact}
use Rattle.tangent_bound.specs.SlopeLows.{outward}
use Rattle.tangent_bound.proofs.CellValues.{Constants, AreHeld}
use Rattle.tangent_bound.proofs.ShownForms.{Held}
use Rattle.tangent_bound.proofs.SlopeScales.{outward_between}

-- ---- the root of 2, and 1 over twice it
abbrev pub root_ends : Ends
root_ends = ends (pos 1630477228166597776) (pos 1630477228166597777)

pub root_positive : (s : Fraction) → IsBetween root_ends (2 ^ 60) s → IsPositive s
root_positive s h = positive_between 1630477228166597776 (2 ^ 60) (pos 1630477228166597777) s (lit< tt) h

root_held : (s : Fraction) → IsBetween root_ends (2 ^ 60) s → Held (outward 20 root_ends) s
root_held s h = record {
  ordered = omega (arith, ints);
  top = omega (arith, ints);
  between = outward_between 20 root_ends s h;
}

-- 1 over twice a root
abbrev pub half_inverse : Fraction → Fraction
half_inverse s = inverse (product_of (whole (pos 2)) s)

half_root_held : (s : Fraction) → IsBetween root_ends (2 ^ 60) s → Held (ends (floor_div (pos (2 ^ 99)) root_ends.hi) (ceil_div (pos (2 ^ 99)) root_ends.lo)) (half_inverse s)
half_root_held s h = record {
  ordered = omega (arith, ints);
  top = omega (arith, ints);
  between =
      by_ratio (λ s. IsBetween root_ends (2 ^ 60) s → IsBetween (ends (floor_div (pos (2 ^ 99)) root_ends.hi) (ceil_div (pos (2 ^ 99)) root_ends.lo)) (2 ^ 40) (half_inverse s)) s (root_positive s h)
      (λ u d pu pd k. of_ratio u d pu
      (order_of_ratios 1630477228166597776 (2 ^ 60) u d (lit< tt) pd k.above) (order_of_ratios u d 1630477228166597777 (2 ^ 60) pd (lit< tt) k.below)) h;
}
  where
    of_ratio : (u d : ℕ) → 0 < u → 1630477228166597776 * d ≤ u * 2 ^ 60 → u * 2 ^ 60 ≤ 1630477228166597777 * d →
        IsBetween (ends (floor_div (pos (2 ^ 99)) root_ends.hi) (ceil_div (pos (2 ^ 99)) root_ends.lo)) (2 ^ 40) (half_inverse (ratio u d))
    of_ratio u d pu low high = record {
      is_fraction = omega (arith, pu);
      above = omega (arith, ints, high);
      below = omega (arith, ints, low);
    }

-- ---- the lift
lift_held : (k : ℕ) → k ≤ 29 → Held (point_ends (k * one)) (whole (pos k))
lift_held k h = record {
  ordered = omega (arith, ints);
  top = omega (arith, ints, h);
  between = record { is_fraction = omega arith; above = omega (arith, ints); below = omega (arith, ints) };
}

-- ---- all of them
abbrev pub constants_of : Case → Instance → Constants
constants_of c x = record { root = x.root_two; half_root = half_inverse x.root_two; lift = (numbers_of c).lift; log_e = x.log_e }

pub root_between : (c : Case) (x : Instance) → fault_of c ≡ None → IsInstance c (enclosures_of c) x → IsBetween root_ends (2 ^ 60) x.root_two
root_between c x e i = rw (← two_exact c) (holds_parameters c x e i).root_two

pub constants_held : (c : Case) (x : Instance) → fault_of c ≡ None → IsInstance c (enclosures_of c) x → AreHeld (numbers_of c) (constants_of c x)
constants_held c x e i =
    let root = root_between c x e i in
    let log_e = (holds_parameters c x e i).log_e in
    let two = two_exact c in
    record {
      root = rw two (root_held x.root_two root);
      half_root = rw two (half_root_held x.root_two root);
      lift = lift_held (numbers_of c).lift (lift_small c);
      log_e = record { ordered = ends_ordered (numbers_of c).log_e (2 ^ 40) x.log_e log_e; top = rw (e_exact c) (omega (arith, ints)); between = log_e };
      right = rw (log_e_of_numbers c) (enclosures_right c).log_e;
    }
