-- The answer of a flash by what is in hand when it ends.
use Rattle.std.specs.Prelude.{ℕ, ◌≡◌, Some, ◌-ℤ◌}
use Rattle.case_types.specs.declared.answers.Answer.{Answer}
use Rattle.case_types.specs.declared.answers.Work.{Work}
use Rattle.case_types.specs.declared.cases.Case.{Case}
use Rattle.case_types.specs.declared.phases.Split.{Split}
use Rattle.case_types.specs.Arithmetic.Bounds.{plane_at}
use Rattle.energy_surface.specs.Outcomes.{outcome_of}
use Rattle.energy_surface.specs.Searches.{low_of}
use Rattle.surface_rounds.specs.declared.stages.Stage.{Stage}

-- the gap is the upper energy of the split less the plane at the feed less the low
pub record IsAnswerOf (c : Case) (parted : Split) (stage : Stage) (spent : ℕ) (done : Work) (a : Answer) : Type 0 where
  pub outcome : outcome_of stage.found ≡ Some a.outcome
  pub split : a.split ≡ parted
  pub u : a.u ≡ stage.chosen.u
  pub plane : a.plane ≡ stage.plane
  pub low : low_of stage.found ≡ Some a.low
  pub gap : a.gap ≡ (a.u -ℤ plane_at c.n a.plane.lam c.z c.total) -ℤ a.low
  pub units : a.units ≡ spent
  pub work : a.work ≡ done
