use Rattle.std.proofs.Common.{◌<◌, ◌≤◌, length, map, arith, sym, ◌∙◌}
use Rattle.std.proofs.lemmas.List.{length-map}
use Rattle.case_words.specs.Names.{text_of}
use Rattle.case_words.proofs.Repeats.{no_repeat-more, repeat-here, no_repeat-end}
use Rattle.case_words.proofs.items.differ.Goals as goal

pub returns-then-stands_after : goal.returns-then-stands_after
returns-then-stands_after c =
    let inside : c.loop-i.i < length (map text_of c.args.names.now) = omega (arith, length-map c.args.names.now text_of) in
    sym (c.loop-i.invariant ∙ repeat-here (map text_of c.args.names.now) c.loop-i.i inside (sym c.if-stands_after.ensures))

pub loop-i-preserved : goal.loop-i-preserved
loop-i-preserved c =
    let inside : c.loop-i.i < length (map text_of c.args.names.now) = omega (arith, length-map c.args.names.now text_of) in
    c.loop-i.invariant ∙ no_repeat-more (map text_of c.args.names.now) c.loop-i.i inside (sym c.if-stands_after.ensures)

pub returns : goal.returns
returns c =
    let end : length (map text_of c.args.names.now) ≤ c.loop-i.i = omega (arith, length-map c.args.names.now text_of) in
    sym (c.loop-i.invariant ∙ no_repeat-end (map text_of c.args.names.now) c.loop-i.i end)
