use Rattle.std.proofs.Common.{ℕ, ◌-◌, ◌≡◌, IsFalse, zero, suc, [], ◌∷◌, slice_index, refl, sym, subst, arith}
use Rattle.log_laws.specs.Sums.{sum_below}
use Rattle.case_types.specs.Grid.Cells.{Region, root_region, misses}
use Rattle.box_search.proofs.domain.whole_low.Goals as goal

none_below : (n : ℕ) → sum_below n (slice_index (0 ∷ 0 ∷ 0 ∷ [])) ≡ 0
none_below zero = refl
none_below (suc zero) = refl
none_below (suc (suc zero)) = refl
none_below (suc (suc (suc zero))) = refl
none_below (suc (suc (suc (suc n)))) = let rest = none_below (suc (suc (suc n))) in omega (arith, rest)

-- the whole domain holds compositions
root_meets : (n : ℕ) → IsFalse (misses n (root_region n))
root_meets n = rw (none_below (n - 1)) refl

pub look-requires-clause-meets : goal.look-requires-clause-meets
look-requires-clause-meets g c =
    let n = (g.S.Surface.bounds c.args.surface.now).count in
    subst (λ (r : Region). IsFalse (misses n r)) (sym c.whole.ensures.whole) (root_meets n)

pub look-requires-clause-parts : goal.look-requires-clause-parts
look-requires-clause-parts g c = c.whole.ensures.parts c.args.plane.now.lam
