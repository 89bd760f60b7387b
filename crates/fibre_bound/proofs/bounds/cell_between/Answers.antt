use Rattle.std.proofs.Common.{rules}
use Rattle.case_types.specs.Arithmetic.Bounds.{box_of}
use Rattle.fibre_bound.proofs.bounds.cell_between.Goals as goal

pub returns-clause-cell : goal.returns-clause-cell
returns-clause-cell g c =
    let e = c.low.ensures.value (box_of c.args.feed.now.x) c.args.from.packing c.args.to.packing c.requires.feed.low c.requires.from c.requires.to in
    record { from = c.requires.from; to = c.requires.to; ordered = c.requires.ordered; low = search (rules, e) }
