use Rattle.std.proofs.Common.{◌^◌, ◌<◌, ap, ◌∙◌, arith, unsigned_abs}
use Rattle.case_types.specs.Arithmetic.Bounds.{Box, box_of}
use Rattle.surface_rounds.proofs.PureColumns.{pure_whole, pure_point, pure_lies}
use Rattle.split_energies.proofs.Exports.{IsLowest, lowest_is, up_of, half_inside}
use Rattle.surface_rounds.proofs.pure_columns.pure_column.Goals as goal
use Rattle.surface_rounds.proofs.pure_columns.pure_column.Goals.{After-half-last, After-lowest-found}

module _ (g : _) (c : After-half-last g) where
  small : unsigned_abs c.half-last.result.up < 2 ^ 49
  small = c.half-last.ensures.small (box_of c.box_at-x.result) c.mix_up-mix.ensures

module _ (g : _) (c : After-lowest-found g) where
  found : IsLowest (g.S.Surface.bounds c.args.surface.now) (box_of c.box_at-x.result) c.half-last.result c.lowest-found.result
  found =
      let s = g.S.Surface.bounds c.args.surface.now in
      let x = box_of c.box_at-x.result in
      let last = c.half-last.ensures.at x c.mix_up-mix.ensures in
      rw (c.lowest-found.ensures.lowest x c.mix_up-mix.ensures)
      (lowest_is s x c.packings.result.items c.half-last.result c.packings.ensures (up_of s x (2 ^ 39) c.half-last.result last) (half_inside s x c.half-last.result last))

pub box_at-x-requires : goal.box_at-x-requires
box_at-x-requires g c = rw c.pure-comp.ensures (pure_whole 4 c.args.k c.requires.four c.requires.four)

pub lowest-found-requires-clause-small : goal.lowest-found-requires-clause-small
lowest-found-requires-clause-small g c = small g (goal.at.lowest-found-requires-clause-small g c).After-half-last

pub column_at-requires : goal.column_at-requires
column_at-requires g c =
    pure_point (g.S.Surface.bounds c.args.surface.now) c.args.k c.pure-comp.result c.lowest-found.result.packing c.requires.live c.requires.four c.pure-comp.ensures
    (found g (goal.at.column_at-requires g c).After-lowest-found).inside

pub unreachable-requires : goal.unreachable-requires
unreachable-requires g c =
    let s = g.S.Surface.bounds c.args.surface.now in
    let low = found g (goal.at.unreachable-requires g c).After-lowest-found in
    let up = low.up ∙ ap (λ (b : Box). s.up b c.lowest-found.result.packing) c.box_at-x.ensures in
    let small = c.lowest-found.ensures.small (box_of c.box_at-x.result) c.mix_up-mix.ensures in
    let large = c.in-None.ensures.none in
    omega (arith, rw up at small, large)

pub returns-clause-pure : goal.returns-clause-pure
returns-clause-pure g c =
    let s = g.S.Surface.bounds c.args.surface.now in
    let x = box_of c.box_at-x.result in
    let low = found g (goal.at.returns-clause-pure g c).After-lowest-found in
    let some = c.in-Some.ensures in
    pure_lies s c.args.k c.pure-comp.result x c.half-last.result c.lowest-found.result c.in-Some.column c.pure-comp.ensures c.box_at-x.ensures (c.half-last.ensures.at x c.mix_up-mix.ensures) low
    some.column some.comp some.packing
