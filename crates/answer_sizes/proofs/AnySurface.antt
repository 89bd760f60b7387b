-- What holds of the numbers of an answer over any surface.
use Rattle.std.proofs.Common.{ℕ, ◌^◌, ◌<◌, ◌≤◌, length, ℤ, pos, ◌-ℤ◌, ◌≤ℤ◌, unsigned_abs, subst, sym, arith}
use Rattle.std.specs.List.{All}
use Rattle.std.proofs.lemmas.Int.{ints}
use Rattle.case_types.specs.declared.answers.Answer.{Answer}
use Rattle.case_types.specs.declared.cases.Case.{Case}
use Rattle.case_types.specs.declared.phases.Phase.{Phase}
use Rattle.case_types.specs.Arithmetic.Numbers.{enclosures_of}
use Rattle.case_types.specs.Arithmetic.Splits.{phase_up, split_up}
use Rattle.case_types.specs.Energy.Divisions.{Division, Certified, energy_of_division}
use Rattle.energy_surface.specs.Lawful.{IsLawful}
use Rattle.energy_surface.specs.Surfaces.{Surface}
use Rattle.answer_sizes.proofs.AnInstance.{an_instance, is_instance}
use Rattle.answer_sizes.proofs.InOrder.{bits_ordered}
use Rattle.answer_sizes.proofs.UpperSize.{split_up_small}

-- no certified division lies below the energy that no division is below
pub gap_positive : (c : Case) (d : Division) (u gap : ℤ) → Certified c (enclosures_of c) d u gap → pos 0 ≤ℤ gap
gap_positive c d u gap h =
    let x = an_instance c in
    from_order u gap (bits_ordered (energy_of_division c x d) (u -ℤ gap) u (h.at_least x (is_instance c) d h.divides) (h.at_most x (is_instance c)))
  where
    from_order : (u gap : ℤ) → (u -ℤ gap) ≤ℤ u → pos 0 ≤ℤ gap
    from_order u gap h = omega (arith, ints, h)

-- the upper energy of a lawful answer of at most four phases is small
pub upper_small : (s : Surface) (c : Case) (tol budget : ℕ) (a : Answer) → length a.split.phases.items ≤ 4 → IsLawful s c tol budget a →
    unsigned_abs a.u ≤ 2 ^ 51
upper_small s c tol budget a few h =
    rw (h.answer.upper)
    (subst (λ (n : ℕ). unsigned_abs (split_up n s.up a.split) ≤ 2 ^ 51) (sym h.answer.components)
    (split_up_small c s.up a.split h.answer.divides few
    (subst (λ (n : ℕ). All (λ (f : Phase). unsigned_abs (phase_up n s.up f) < 2 ^ 49) a.split.phases.items) h.answer.components h.phases)))
