use Rattle.std.proofs.Common.{◌≡◌, [], ◌∷◌, refl, sym, subst}
use Rattle.log_laws.specs.Sums.{list_below}
use Rattle.case_types.specs.Arithmetic.Bounds.{Box, box_of_parts}
use Rattle.case_types.specs.Energy.Divisions.{state_of}
use Rattle.case_types.specs.Arithmetic.Holding.{IsInBox}
use Rattle.case_types.proofs.Exports.{IsBox, in_box_of_parts, parts_box}
use Rattle.density_boxes.proofs.compositions.phase_box.Goals as goal
use Rattle.density_boxes.proofs.compositions.phase_box.Goals.{After-fraction_ends-fourth}

-- the box that the code makes
abbrev made : After-fraction_ends-fourth → Box
made c = record {
  lo = c.fraction_ends-first.result.0 ∷ c.fraction_ends-second.result.0 ∷ c.fraction_ends-third.result.0 ∷ c.fraction_ends-fourth.result.0 ∷ [];
  hi = c.fraction_ends-first.result.1 ∷ c.fraction_ends-second.result.1 ∷ c.fraction_ends-third.result.1 ∷ c.fraction_ends-fourth.result.1 ∷ [];
}

-- it is that of the parts
made_is : (c : After-fraction_ends-fourth) → made c ≡ box_of_parts c.args.case.now.n c.args.phase.now.parts
unfolding list_below
made_is c =
    rw (
      c.fraction_ends-first.ensures.lo,
      c.fraction_ends-second.ensures.lo,
      c.fraction_ends-third.ensures.lo,
      c.fraction_ends-fourth.ensures.lo,
      c.fraction_ends-first.ensures.hi,
      c.fraction_ends-second.ensures.hi,
      c.fraction_ends-third.ensures.hi,
      c.fraction_ends-fourth.ensures.hi,
      c.moles-sum.ensures,
    ) refl

pub returns-clause-value : goal.returns-clause-value
returns-clause-value c = made_is (goal.at.returns-clause-value c).After-fraction_ends-fourth

pub returns-clause-holds : goal.returns-clause-holds
returns-clause-holds c =
    subst (λ (x : Box). IsInBox c.args.case.now.n x (state_of c.args.phase.now)) (sym (made_is (goal.at.returns-clause-holds c).After-fraction_ends-fourth))
    (in_box_of_parts c.args.case.now.n c.args.phase.now c.args.case.now.few c.requires.some)

pub invariant_of-result : goal.invariant_of-result
invariant_of-result c =
    let holds = subst IsBox (sym (made_is c)) (parts_box c.args.case.now.n c.args.phase.now.parts c.args.case.now.few c.requires.some) in
    record { ordered = holds.ordered; inside = holds.inside; not_above = holds.not_above; not_below = holds.not_below }
