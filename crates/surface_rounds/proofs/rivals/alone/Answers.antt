use Rattle.std.proofs.Common.{sym}
use Rattle.case_types.specs.Arithmetic.Bounds.{box_of}
use Rattle.split_energies.specs.Scanned.{IsScanned}
use Rattle.surface_rounds.proofs.FirstSplits.{IsAlone, alone_found, alone_guess, alone_energy}
use Rattle.surface_rounds.proofs.rivals.alone.Goals as goal
use Rattle.surface_rounds.proofs.rivals.alone.Goals.{After-scan-scanned, After-lowest-found}

scanned : (g : _) (c : After-scan-scanned g) → IsScanned (g.S.Surface.bounds c.args.surface.now) (box_of c.feed_box-x.result) c.scan-scanned.result
scanned g c = c.scan-scanned.ensures (box_of c.feed_box-x.result) c.mix_up-mix.ensures

found : (g : _) (c : After-lowest-found g) → IsAlone (g.S.Surface.bounds c.args.surface.now) c.args.case.now c.lowest-found.result
found g c =
    let x = box_of c.feed_box-x.result in
    let here = (goal.at.one_phase-requires-clause-some g c).After-scan-scanned in
    alone_found (g.S.Surface.bounds c.args.surface.now) c.args.case.now x c.packings.result.items c.scan-scanned.result c.lowest-found.result (sym c.requires.components) c.feed_box-x.ensures
    (scanned g here) c.packings.ensures (c.lowest-found.ensures.lowest x c.mix_up-mix.ensures) (c.lowest-found.ensures.small x c.mix_up-mix.ensures)

pub lowest-found-requires-clause-small : goal.lowest-found-requires-clause-small
lowest-found-requires-clause-small g c = (scanned g (goal.at.lowest-found-requires-clause-small g c).After-scan-scanned).small

pub one_phase-requires-clause-some : goal.one_phase-requires-clause-some
one_phase-requires-clause-some g c = (found g (goal.at.one_phase-requires-clause-some g c).After-lowest-found).inside.some

pub one_phase-requires-clause-inside : goal.one_phase-requires-clause-inside
one_phase-requires-clause-inside g c = (found g (goal.at.one_phase-requires-clause-inside g c).After-lowest-found).inside.less

pub weighed-requires-clause-guess : goal.weighed-requires-clause-guess
weighed-requires-clause-guess g c =
    alone_guess (g.S.Surface.bounds c.args.surface.now) c.args.case.now c.lowest-found.result c.one_phase.result (sym c.requires.components)
    (found g (goal.at.weighed-requires-clause-guess g c).After-lowest-found) c.one_phase.ensures

pub returns-clause-scanned : goal.returns-clause-scanned
returns-clause-scanned g c = λ k h.
    let alone = found g (goal.at.returns-clause-scanned g c).After-lowest-found in
    rw (alone_energy (g.S.Surface.bounds c.args.surface.now) c.args.case.now c.lowest-found.result c.one_phase.result c.weighed.result (sym c.requires.components) alone c.one_phase.ensures
    c.weighed.ensures.rival c.weighed.ensures.split) (alone.scanned k h)
