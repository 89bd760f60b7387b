use Rattle.std.proofs.Common.{◌<◌, ◌≤◌, length, map, get_or, arith, sym, ◌∙◌, [], true, false}
use Rattle.std.specs.Str.{bytes_eq}
use Rattle.std.proofs.lemmas.List.{length-map}
use Rattle.case_words.specs.Names.{text_of}
use Rattle.case_words.proofs.Repeats.{any-more, any-here, any-end, same_texts}
use Rattle.case_words.proofs.items.stands_after.Goals as goal

pub returns-then-eq : goal.returns-then-eq
returns-then-eq c =
    let same = same_texts c.args.names.now c.args.at c.loop-j.j c.index-names-at.result c.index-names-j.result c.name_text.result.now c.name_text-in-loop-j.result.now
    true c.requires c.loop-j-test.true c.index-names-at.is c.index-names-j.is c.name_text.ensures c.name_text-in-loop-j.ensures c.if-eq.ensures in
    let inside : c.loop-j.j < length (map text_of c.args.names.now) = omega (arith, length-map c.args.names.now text_of) in
    sym (c.loop-j.invariant ∙ any-here (bytes_eq (get_or (map text_of c.args.names.now) c.args.at [])) (map text_of c.args.names.now) c.loop-j.j inside same)

pub loop-j-preserved : goal.loop-j-preserved
loop-j-preserved c =
    let other = same_texts c.args.names.now c.args.at c.loop-j.j c.index-names-at.result c.index-names-j.result c.name_text.result.now c.name_text-in-loop-j.result.now
    false c.requires c.loop-j-test.true c.index-names-at.is c.index-names-j.is c.name_text.ensures c.name_text-in-loop-j.ensures c.if-eq.ensures in
    let inside : c.loop-j.j < length (map text_of c.args.names.now) = omega (arith, length-map c.args.names.now text_of) in
    c.loop-j.invariant ∙ any-more (bytes_eq (get_or (map text_of c.args.names.now) c.args.at [])) (map text_of c.args.names.now) c.loop-j.j inside other

pub returns : goal.returns
returns c =
    let end : length (map text_of c.args.names.now) ≤ c.loop-j.j = omega (arith, length-map c.args.names.now text_of) in
    sym (c.loop-j.invariant ∙ any-end (bytes_eq (get_or (map text_of c.args.names.now) c.args.at [])) (map text_of c.args.names.now) c.loop-j.j end)
