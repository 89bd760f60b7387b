-- The certificate of an answer, and what is read of a head that is written.
use Rattle.std.specs.Prelude.{ℕ, ◌-◌, List, [], ◌++◌, map, length, slice_get, slice_range, All, Option, Some, None, ◌≡◌, ◌≤◌}
use Rattle.case_types.specs.declared.answers.Answer.{Answer}
use Rattle.case_types.specs.declared.answers.Work.{Work}
use Rattle.case_types.specs.declared.phases.Phase.{Phase}
use Rattle.case_types.specs.declared.rounds.Round.{Round}
use Rattle.pr_params.specs.declared.numbers.Params.{Params}
use Rattle.cert_lines.specs.Heads.{Draft, blank, next_place}
use Rattle.cert_lines.specs.HeadTexts.{with_lines, head_end, Whole}
use Rattle.cert_lines.specs.Places.{places}
use Rattle.cert_format.specs.declared.heads.Head.{Head}
use Rattle.cert_format.specs.Heads.{IsHead, said_of, shape_of, line_of, head_text, text_with}
use Rattle.cert_format.specs.Reading.{IsHeadOf}

-- ---- the certificate of an answer
abbrev pub letters_of_round : Work → Option Round → List ℕ
letters_of_round w None = []
letters_of_round w (Some r) = slice_range w.letters.items r.from r.to

-- the letters of the last round, none where there is no round
abbrev pub last_letters : Work → List ℕ
last_letters w = letters_of_round w (slice_get w.rounds.items (length w.rounds.items - 1))

-- in version 2, with the letters of the last round
abbrev pub head_of : Params → Answer → Head
head_of p a = record {
  version = 2;
  params = record { case = p.case; two = p.two; e = p.e; t = p.t; q = p.q };
  split = a.split;
  u = a.u;
  plane = a.plane;
  low = a.low;
  gap = a.gap;
  letters = length (last_letters a.work);
}

abbrev pub certificate_text : Params → Answer → List ℕ
certificate_text p a = text_with (head_of p a) (last_letters a.work)

-- ---- heads that are written
-- what the arrays of a head keep: at most four phases, and a number for each of four components
pub record IsSized (h : Head) : Type 0 where
  pub phases : length h.split.phases.items ≤ 4
  pub parts : All (λ (f : Phase). length f.parts ≡ 4) h.split.phases.items
  pub plane : length h.plane.lam ≡ 4

-- the head is read back, line by line, and from the front of any text that begins with it
pub record IsReadBack (h : Head) (d : Draft) : Type 0 where
  pub said : IsHeadOf d h
  pub lines : with_lines blank (map (line_of h) (places (shape_of h))) ≡ Some d
  pub whole : next_place d ≡ None
  pub front : (rest : List ℕ) → head_end blank [] (head_text h ++ rest) ≡ Whole d rest

abbrev pub HeadsAreReadBack : Type 0
HeadsAreReadBack = (h : Head) → IsHead h → IsSized h → (d : Draft) × IsReadBack h d

-- heads with one text say the same
abbrev pub HeadsSayOneThing : Type 0
HeadsSayOneThing = (h g : Head) → IsHead h → IsSized h → IsHead g → IsSized g → head_text h ≡ head_text g → said_of h ≡ said_of g

-- and so do heads of texts that are the same with the letters and the end
abbrev pub TextsSayOneThing : Type 0
TextsSayOneThing =
    (h g : Head) (letters others : List ℕ) → IsHead h → IsSized h → IsHead g → IsSized g → text_with h letters ≡ text_with g others →
    (said_of h ≡ said_of g) × (letters ≡ others)
