-- The ends in hand stay one divided and one whole.
use Rattle.std.proofs.Common.{◌≡◌, Bool, true, false, not, refl}
use Rattle.std.specs.Prelude.{◌&&◌, ◌||◌}
use Rattle.case_types.specs.declared.edges.Kind.{Kind}
use Rattle.case_types.specs.declared.edges.Kind.TheVariants.{Divided, Liquid, Vapour}
use Rattle.case_words.specs.declared.boundaries.Side.{Side}
use Rattle.case_words.specs.declared.boundaries.Side.TheVariants.{Bubble, Dew}
use Rattle.edge_flash.specs.Places.{is_divided, is_pair, are_alike}

-- those that are looked for are
pub pair_differs : (side : Side) (a b : Kind) → is_pair side a b ≡ true → are_alike a b ≡ false
pair_differs Bubble Divided Divided h = absurd (cc h)
pair_differs Bubble Divided Liquid h = refl
pair_differs Bubble Divided Vapour h = absurd (cc h)
pair_differs Bubble Liquid Divided h = refl
pair_differs Bubble Liquid Liquid h = absurd (cc h)
pair_differs Bubble Liquid Vapour h = absurd (cc h)
pair_differs Bubble Vapour Divided h = absurd (cc h)
pair_differs Bubble Vapour Liquid h = absurd (cc h)
pair_differs Bubble Vapour Vapour h = absurd (cc h)
pair_differs Dew Divided Divided h = absurd (cc h)
pair_differs Dew Divided Liquid h = absurd (cc h)
pair_differs Dew Divided Vapour h = refl
pair_differs Dew Liquid Divided h = absurd (cc h)
pair_differs Dew Liquid Liquid h = absurd (cc h)
pair_differs Dew Liquid Vapour h = absurd (cc h)
pair_differs Dew Vapour Divided h = refl
pair_differs Dew Vapour Liquid h = absurd (cc h)
pair_differs Dew Vapour Vapour h = absurd (cc h)

-- what is like one of two that differ, differs from the other
pub alike_differs : (a b c : Kind) → are_alike a b ≡ true → are_alike a c ≡ false → are_alike b c ≡ false
alike_differs a b c h k = by_tests (is_divided a) (is_divided b) (is_divided c) h k
  where
    by_tests : (p q r : Bool) → (p && q || not (p || q)) ≡ true → (p && r || not (p || r)) ≡ false → (q && r || not (q || r)) ≡ false
    by_tests true true r h k = k
    by_tests true false r h k = absurd (cc h)
    by_tests false true r h k = absurd (cc h)
    by_tests false false r h k = k
