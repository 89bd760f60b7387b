use Rattle.std.proofs.lemmas.List.Elements.{All-get_or}
use Rattle.cubic_roots.specs.Pressures.{IsPlace}
use Rattle.candidate_split.proofs.settling.energy_at.Goals as goal

pub energy_up-requires-clause-some : goal.energy_up-requires-clause-some
energy_up-requires-clause-some c = rw c.deref.ensures.0 (All-get_or IsPlace c.args.places.now.items c.args.i 0 c.requires.there c.requires.places).0
