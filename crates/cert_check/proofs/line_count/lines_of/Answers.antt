use Rattle.std.proofs.Common.{◌≡◌, if◌then◌else◌, refl}
use Rattle.std.specs.Prelude.{◌==◌}
use Rattle.cert_check.proofs.LineCount.{lines_count, not_two}
use Rattle.cert_check.proofs.line_count.lines_of.Goals.{then-head-eq2, else-head-eq2}
use Rattle.cert_check.proofs.line_count.lines_of.Goals as goal

pub returns-clause-value : goal.returns-clause-value
returns-clause-value c =
    let h = c.args.head.now in
    let edition : c.if-head-eq2.edition ≡ (if h.version == 2 then 1 else 0) = elim c.if-head-eq2.branch [
      | then-head-eq2 w ↦ rw (w.edition-is, w.if-head-eq2.true) refl
      | else-head-eq2 w ↦ rw (w.edition-is, not_two h.version w.if-head-eq2.false) refl
    ] in
    rw (c.from-n.ensures, c.pairs_of-pairs.ensures.value, c.len-phases.ensures.value) (lines_count h c.if-head-eq2.edition edition)
