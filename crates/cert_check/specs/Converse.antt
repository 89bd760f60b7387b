-- Good certificates are accepted, and what answers are printed as is one.
use Rattle.std.specs.Prelude.{ℕ, ◌≤◌, ◌≡◌, List, IsTrue}
use Rattle.std.specs.List.{list_all}
use Rattle.log_laws.specs.Sums.{list_below}
use Rattle.case_types.specs.declared.answers.Answer.{Answer}
use Rattle.case_types.specs.declared.cases.Case.{Case}
use Rattle.case_words.specs.Names.{is_name_length, are_different}
use Rattle.case_types.specs.Arithmetic.Numbers.{numbers_of}
use Rattle.energy_surface.specs.Lawful.{IsLawful}
use Rattle.pr_params.specs.declared.numbers.Params.{Params}
use Rattle.pr_surface.specs.PengRobinson.{surface_of}
use Rattle.cert_format.specs.declared.heads.Head.{Head}
use Rattle.cert_format.specs.declared.verdicts.Verdict.{Verdict}
use Rattle.cert_format.specs.declared.verdicts.Verdict.TheVariants.{Accepted}
use Rattle.cert_format.specs.Heads.{name_of_component}
use Rattle.cert_format.specs.Writing.{IsSized, head_of, certificate_text}
use Rattle.cert_check.specs.Certificates.{IsGoodText}
use Rattle.cert_check.specs.Judging.{IsVerdict}
use Rattle.cert_check.specs.Streams.{IsStreamVerdict}

-- the text of a good certificate has one verdict: it is accepted with its energy and its gap
abbrev pub GoodIsAccepted : Type 0
GoodIsAccepted = (text : List ℕ) (h : Head) → IsSized h → IsGoodText text h → (v : Verdict) → IsVerdict text v → v ≡ Accepted h.u h.gap

-- the components of a case have names, which differ
pub record AreNamed (c : Case) : Type 0 where
  pub named : IsTrue (list_all is_name_length (list_below c.n (name_of_component c)))
  pub differ : IsTrue (are_different (list_below c.n (name_of_component c)))

-- the certificate of a lawful answer is that of a good one, so it is accepted with the answer's energy and gap, whatever the outcome, where
-- the components have names that differ
abbrev pub AnswersAreAccepted : Type 0
AnswersAreAccepted =
    (p : Params) (tol budget : ℕ) (a : Answer) → budget ≤ 10000000 → IsLawful (surface_of (numbers_of p.case)) p.case tol budget a →
    AreNamed p.case → IsSized (head_of p a) → (v : Verdict) → IsStreamVerdict (certificate_text p a) v → v ≡ Accepted a.u a.gap
