-- What the types hold, as the definitions see it.
use Rattle.std.specs.Prelude.{map}
use Rattle.std.specs.Option.{option_map}
use Rattle.case_words.specs.declared.gathering.Given.{Given}
use Rattle.case_words.specs.declared.boundaries.EdgeWords.{EdgeWords}
use Rattle.case_words.specs.declared.jobs.FlashWords.{FlashWords}
use Rattle.case_words.specs.declared.jobs.Job.{Job}
use Rattle.case_words.specs.declared.jobs.Job.TheVariants.{Tp, Cert, Check, Edge}
use Rattle.case_words.specs.Names.{text_of}
use Rattle.case_words.specs.Jobs.{Gathered, Asked, EdgeAsked, PlainJob, PlainTp, PlainCert, PlainCheck, PlainEdge}

abbrev pub gathered_of : Given → Gathered
gathered_of g = record {
  t = g.t;
  p = g.p;
  lo = g.lo;
  hi = g.hi;
  width = g.width;
  z = option_map (λ z. z.items) g.z;
  names = option_map (λ names. map text_of names.items) g.names;
  tol = g.tol;
  budget = g.budget;
  edition = g.edition;
}

abbrev pub asked_by : FlashWords → Asked
asked_by words = record {
  t = words.t;
  p = words.p;
  z = words.z.items;
  names = map text_of words.names.items;
  tol = words.tol;
  budget = words.budget;
  edition = words.edition;
}

abbrev pub edge_asked_by : EdgeWords → EdgeAsked
edge_asked_by words = record {
  base = asked_by words.base;
  by = words.by;
  side = words.side;
  lo = words.lo;
  hi = words.hi;
  width = words.width;
}

abbrev pub plain_job : Job → PlainJob
plain_job (Tp words) = PlainTp (asked_by words)
plain_job (Cert words) = PlainCert (asked_by words)
plain_job Check = PlainCheck
plain_job (Edge words) = PlainEdge (edge_asked_by words)
