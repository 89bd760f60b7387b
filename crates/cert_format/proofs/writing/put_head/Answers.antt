use Rattle.std.proofs.Common.{◌≡◌, ap, sym, ◌∙◌, map, arith, List, None}
use Rattle.std.specs.List.{slice_get}
use Rattle.std.proofs.lemmas.List.{take_all}
use Rattle.cert_lines.specs.HeadTexts.{lines_text}
use Rattle.cert_lines.specs.Places.{places}
use Rattle.cert_lines.specs.declared.places.Place.{Place}
use Rattle.dec_text.proofs.Exports.{adds-then, adds-as, adds-nothing}
use Rattle.cert_format.specs.Heads.{line_of, shape_of}
use Rattle.cert_format.proofs.Texts.{lines-next, all_lines, few_places}
use Rattle.cert_format.proofs.writing.put_head.Goals as goal

pub loop-at-init : goal.loop-at-init
unfolding lines_text
loop-at-init c = adds-nothing _

pub returns-in_default : goal.returns-in_default
returns-in_default c =
    let h = c.args.head.now in
    let none : slice_get (places (shape_of h)) c.loop-at.at ≡ None = rw c.shape_of-shape.ensures.shape at (sym c.place_at.ensures.listed ∙ c.in_default.is) in
    adds-as _ (ap (λ (ps : List Place). lines_text (map (line_of h) ps)) (take_all c.loop-at.at (places (shape_of h)) (all_lines (places (shape_of h)) c.loop-at.at none))) c.loop-at.invariant

pub loop-at-preserved : goal.loop-at-preserved
loop-at-preserved c =
    let h = c.args.head.now in
    adds-as _ (lines-next (line_of h) (places (shape_of h)) c.loop-at.at c.in-Some.place (rw c.shape_of-shape.ensures.shape at (sym c.place_at.ensures.listed ∙ c.in-Some.is)))
    (adds-then c.loop-at.invariant c.in_ok-put_line_at.ensures)

pub returns : goal.returns
returns c =
    let h = c.args.head.now in
    adds-as _ (ap (λ (ps : List Place). lines_text (map (line_of h) ps)) (take_all c.loop-at.at (places (shape_of h)) (few_places (shape_of h) c.loop-at.at h.params.case.few (rw c.shape_of-shape.ensures.shape at c.shape_of-shape.ensures.phases) (omega arith)))) c.loop-at.invariant
