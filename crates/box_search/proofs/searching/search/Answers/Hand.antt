-- The cell in hand of a search, where it isn't cleared.
use Rattle.std.proofs.Common.{◌≡◌, ◌+◌, ◌-◌, ◌*◌, ◌∷◌, length, ℕ, List, ℤ, neg_ℤ, ◌<ℤ◌, ◌≤ℤ◌, to_z, of_z, ap, ◌∙◌, arith}
use Rattle.std.specs.Int.{w128}
use Rattle.std.proofs.lemmas.Int.{ints}
use Rattle.log_laws.proofs.Exports.{back}
use Rattle.case_types.specs.Grid.Cells.{region_of, root_region}
use Rattle.case_types.specs.Spared.{Spared}
use Rattle.energy_surface.specs.declared.found.Found.TheVariants.{Spent}
use Rattle.box_search.specs.Leaves.{IsLeft}
use Rattle.box_search.specs.Written.{Writes, WritesSome, Closes, Searches}
use Rattle.box_search.proofs.Letters.{then_more, writes}
use Rattle.box_search.proofs.Root.{root_open}
use Rattle.box_search.proofs.SoFar.{highest, stops_spent}
use Rattle.box_search.proofs.searching.search.Goals.{In-Some-made}
use Rattle.energy_surface.specs.Surfaces.{under, plain_low}
use Rattle.energy_surface.specs.Searches.{IsUncleared, WantsUnit}

pub delta_read : (g : _) (c : In-Some-made g) → to_z w128 (of_z w128 c.args.delta) ≡ c.args.delta
delta_read g c = back c.args.delta (omega (arith, ints, c.requires.delta_low, c.requires.delta_high))

-- neither of its lows clears it
pub cell_uncleared : (g : _) (c : In-Some-made g) → IsUncleared (under (g.S.Surface.bounds c.args.surface.now) c.args.plane.now.lam c.args.delta) (region_of c.in-Some.half.cell)
cell_uncleared g c = rw (c.in-Some-made.is, delta_read g c) at c.see-seen.ensures.uncleared

-- it is left by the greater of them
pub cell_left : (g : _) (c : In-Some-made g) → IsLeft (g.S.Surface.bounds c.args.surface.now) c.args.plane.now.lam (region_of c.in-Some.half.cell) c.see-seen.result.leaf
cell_left g c = rw c.in-Some-made.is at c.see-seen.ensures.left

pub leaf_below : (g : _) (c : In-Some-made g) → c.see-seen.result.leaf.low <ℤ neg_ℤ c.args.delta
leaf_below g c = rw (c.in-Some-made.is, delta_read g c) at c.see-seen.ensures.below

pub root_not_clear : (g : _) (c : In-Some-made g) →
    plain_low (g.S.Surface.bounds c.args.surface.now) c.args.plane.now.lam (root_region (g.S.Surface.bounds c.args.surface.now).count) <ℤ neg_ℤ c.args.delta
root_not_clear g c =
    root_open (under (g.S.Surface.bounds c.args.surface.now) c.args.plane.now.lam c.args.delta) (region_of c.in-Some.half.cell) c.loop-half.stack.regions c.pop.new.self.regions
    c.in-Some.ensures.some (rw (delta_read g c) at c.loop-half.invariant.begun) (cell_uncleared g c).below

-- the letters of the cells that are left
pub stopped_letters : (g : _) (c : In-Some-made g) (new : Spared ℕ) → WritesSome c.loop-half.letters new (length c.pop.new.self.regions + 1) →
    Writes c.args.letters.now new (c.loop-half.units.spent - c.args.units.now.spent)
stopped_letters g c new more =
    let old = c.loop-half.invariant in
    let n : length c.loop-half.stack.regions ≡ length c.pop.new.self.regions + 1 = ap length c.in-Some.ensures.some ∙ omega arith in
    let spent = c.loop-half.units.spent - c.args.units.now.spent in
    let all = then_more c.args.letters.now c.loop-half.letters new (2 * spent + 1 - length c.loop-half.stack.regions) (length c.pop.new.self.regions + 1) old.letters more in
    writes c.args.letters.now new (2 * spent + 1 - length c.loop-half.stack.regions + (length c.pop.new.self.regions + 1)) spent all (omega (arith, n, old.counted))

-- the least low is below every low of a cell that is cleared
pub far_below : (g : _) (c : In-Some-made g) (least : ℤ) → least ≤ℤ c.see-seen.result.leaf.low → least <ℤ highest
far_below g c least h = let k = leaf_below g c in omega (arith, ints, h, k, c.requires.delta_low)

-- the search stops for want of a unit
pub stopped : (g : _) (c : In-Some-made g) (least : ℤ) (new : List ℕ) → WantsUnit (under (g.S.Surface.bounds c.args.surface.now) c.args.plane.now.lam c.args.delta) (region_of c.in-Some.half.cell) →
    least ≤ℤ c.see-seen.result.leaf.low →
    Closes (g.S.Surface.bounds c.args.surface.now) c.args.plane.now.lam (to_z w128 c.loop-half.low-bits) (region_of c.in-Some.half.cell ∷ c.pop.new.self.regions) c.loop-half.letters.items new least →
    Searches (under (g.S.Surface.bounds c.args.surface.now) c.args.plane.now.lam c.args.delta) c.args.letters.now.items new (c.loop-half.units.spent - c.args.units.now.spent) (Spent least)
stopped g c least new cause low closes =
    stops_spent (under (g.S.Surface.bounds c.args.surface.now) c.args.plane.now.lam c.args.delta) (to_z w128 c.loop-half.low-bits) least c.args.letters.now.items c.loop-half.letters.items
    new (c.loop-half.units.spent - c.args.units.now.spent) (region_of c.in-Some.half.cell) c.loop-half.stack.regions c.pop.new.self.regions
    c.in-Some.ensures.some cause closes (far_below g c least low)
    (rw (delta_read g c) at c.loop-half.invariant.so_far)
