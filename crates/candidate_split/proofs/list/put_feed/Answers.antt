use Rattle.split_energies.proofs.Exports.{one_phase_divides}
use Rattle.candidate_split.proofs.list.put_feed.Goals as goal

pub put-requires-clause-divides : goal.put-requires-clause-divides
put-requires-clause-divides c = one_phase_divides c.args.params.now.case c.args.packing c.one_phase.result c.one_phase.ensures c.requires.some c.requires.inside
