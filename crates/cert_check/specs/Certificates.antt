-- Good certificates, and what they certify.
use Rattle.std.specs.Prelude.{ℕ, ◌≡◌, List, length, None, ℤ}
use Rattle.case_types.specs.Arithmetic.Numbers.{enclosures_of}
use Rattle.case_types.specs.Energy.Divisions.{Certified, division_of}
use Rattle.case_types.specs.Grid.Cells.{Tree, root_region}
use Rattle.cert_format.specs.declared.heads.Head.{Head}
use Rattle.cert_format.specs.Heads.{IsHead, cert_text}
use Rattle.cert_letters.specs.Lines.{IsGoodTree, tree_letters}
use Rattle.cert_format.specs.declared.verdicts.Verdict.TheVariants.{Accepted}
use Rattle.cert_check.specs.Tests.{first_broken, passes}
use Rattle.cert_check.specs.Judging.{IsVerdict}

-- the head passes its tests, and the tree has as many letters as stated, halves what can be halved, and its leaves pass
pub record IsGood (h : Head) (tree : Tree) : Type 0 where
  pub head : IsHead h
  pub unbroken : first_broken h ≡ None
  pub tree_good : IsGoodTree h.params.case.n (passes h) tree (root_region h.params.case.n)
  pub counted : length (tree_letters h.params.case.n tree) ≡ h.letters

-- the text is that of a good certificate
pub record IsGoodText (text : List ℕ) (h : Head) : Type 0 where
  pub tree : Tree
  pub good : IsGood h tree
  pub is : text ≡ cert_text h tree

-- the split of a good certificate is certified with the stated energy and gap
abbrev pub GoodCertifies : Type 0
GoodCertifies =
    (h : Head) (tree : Tree) → IsGood h tree →
    Certified h.params.case (enclosures_of h.params.case) (division_of h.split) h.u h.gap

-- what is accepted is the text of a good certificate, with the energy and the gap of the verdict
abbrev pub AcceptedIsGood : Type 0
AcceptedIsGood =
    (text : List ℕ) (u gap : ℤ) → IsVerdict text (Accepted u gap) →
    (h : Head) × IsGoodText text h × (h.u ≡ u) × (h.gap ≡ gap)
