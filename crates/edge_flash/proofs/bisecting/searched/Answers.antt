use Rattle.std.proofs.Common.{◌+◌, ◌/◌, sym, ◌∙◌}
use Rattle.std.proofs.lemmas.Result.{err_from_is_err_and}
use Rattle.case_types.specs.Brackets.IsNext.{Lower, Upper, Middle}
use Rattle.edge_flash.specs.Places.{boundary, in_hand, IsEndOf}
use Rattle.edge_flash.proofs.Walking.{end_said, halt_said, halted_at, begins, halves}
use Rattle.edge_flash.proofs.bisecting.searched.Goals as goal

pub returns-in_err-lower-clause-halted : goal.returns-in_err-lower-clause-halted
returns-in_err-lower-clause-halted g c =
    let f = g.C.Classify.may_say c.args.places.now in
    let p = err_from_is_err_and c.from_residual.result c.from_residual.ensures.1 in
    rw (p.1, p.2) (halted_at f (boundary c.args.side c.args.lo c.args.hi c.args.width) c.args.lo c.in_err-lower.field-0.0 Lower c.in_err-lower.ensures.halted)

pub returns-in_err-upper-clause-halted : goal.returns-in_err-upper-clause-halted
returns-in_err-upper-clause-halted g c =
    let f = g.C.Classify.may_say c.args.places.now in
    let p = err_from_is_err_and c.from_residual-in_err-upper.result c.from_residual-in_err-upper.ensures.1 in
    rw (p.1, p.2)
    (halted_at f (boundary c.args.side c.args.lo c.args.hi c.args.width) c.args.hi c.in_err-upper.field-0.0 (Upper c.in_ok-lower.lower c.in_ok-lower.ensures.end)
    (halt_said (g.C.Classify.may_say c.end_at.new.places) f c.args.hi c.in_err-upper.field-0.0 (λ place said. (c.end_at.ensures.kept place said).0) c.in_err-upper.ensures.halted))

pub loop-upper-init : goal.loop-upper-init
loop-upper-init g c =
    let f = g.C.Classify.may_say c.args.places.now in
    let h = begins f c.args.side c.args.lo c.args.hi c.args.width c.in_ok-lower.lower c.in_ok-upper.upper c.requires.ordered c.in_ok-lower.ensures.end
    (end_said (g.C.Classify.may_say c.end_at.new.places) f c.args.hi c.in_ok-upper.upper (λ place said. (c.end_at.ensures.kept place said).0) c.in_ok-upper.ensures.end)
    (sym c.has_boundary.ensures ∙ c.if-not-has_boundary.false) in
    record {
      walk = h.walk;
      differ = h.differ;
      low = h.low;
      ordered = h.ordered;
      high = h.high;
      least = c.end_at-2.ensures.least ∙ c.end_at.ensures.least;
      greatest = c.end_at-2.ensures.greatest ∙ c.end_at.ensures.greatest;
      kept = λ place said.
          (λ x. (c.end_at.ensures.kept place said).0 ((c.end_at-2.ensures.kept place said).0 x), λ x. (c.end_at-2.ensures.kept place said).1 ((c.end_at.ensures.kept place said).1 x));
    }

pub returns-in_err-end-clause-halted : goal.returns-in_err-end-clause-halted
returns-in_err-end-clause-halted g c =
    let f = g.C.Classify.may_say c.args.places.now in
    let p = err_from_is_err_and c.from_residual-in_err-end.result c.from_residual-in_err-end.ensures.1 in
    rw (p.1, p.2)
    (halted_at f (boundary c.args.side c.args.lo c.args.hi c.args.width) ((c.loop-upper.lower.at + c.loop-upper.upper.at) / 2) c.in_err-end.field-0.0
    (Middle (in_hand c.loop-upper.lower c.loop-upper.upper) c.loop-upper.invariant.walk c.loop-upper-test.true)
    (rw c.halved.ensures at
    (halt_said (g.C.Classify.may_say c.loop-upper.places) f c.halved.result c.in_err-end.field-0.0 (λ place said. (c.loop-upper.invariant.kept place said).0) c.in_err-end.ensures.halted)))

pub loop-upper-preserved : goal.loop-upper-preserved
loop-upper-preserved g c =
    let f = g.C.Classify.may_say c.args.places.now in
    let i = c.loop-upper.invariant in
    let end : IsEndOf f c.halved.result c.in_ok-end.end =
    end_said (g.C.Classify.may_say c.loop-upper.places) f c.halved.result c.in_ok-end.end (λ place said. (i.kept place said).0) c.in_ok-end.ensures.end in
    let h = halves f c.args.side c.args.lo c.args.hi c.args.width c.loop-upper.lower c.loop-upper.upper c.in_ok-end.end c.requires.some_width
    (record { walk = i.walk; differ = i.differ; low = i.low; ordered = i.ordered; high = i.high }) c.loop-upper-test.true
    (rw c.halved.ensures at end) in
    rw (c.narrowed.ensures.lower, c.narrowed.ensures.upper)
    (record {
      walk = h.walk;
      differ = h.differ;
      low = h.low;
      ordered = h.ordered;
      high = h.high;
      least = c.end_at-in-loop-upper.ensures.least ∙ i.least;
      greatest = c.end_at-in-loop-upper.ensures.greatest ∙ i.greatest;
      kept = λ place said.
          (λ x. (i.kept place said).0 ((c.end_at-in-loop-upper.ensures.kept place said).0 x), λ x. (c.end_at-in-loop-upper.ensures.kept place said).1 ((i.kept place said).1 x));
    })
