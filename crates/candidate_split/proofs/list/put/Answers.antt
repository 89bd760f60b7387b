use Rattle.std.proofs.lemmas.List.Elements.{All-push}
use Rattle.candidate_split.specs.Candidates.{IsCandidate}
use Rattle.candidate_split.proofs.list.put.Goals as goal

pub returns-then-is_shallow : goal.returns-then-is_shallow
returns-then-is_shallow c =
    let r = c.requires in
    rw c.push.ensures.items (All-push (IsCandidate c.args.params.now.case) c.args.list.now.items c.args.split r.list
    (record { divides = r.divides; few = r.few; shallow = c.is_shallow.ensures.0 c.if-is_shallow.true }))
