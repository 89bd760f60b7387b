-- The text of a good certificate is accepted.
use Rattle.std.proofs.Common.{◌≡◌, ℕ, List, ◌∷◌, [], ◌++◌, length, refl, sym, ap, subst, ◌∙◌, Bool, None, IsTrue}
use Rattle.std.specs.Prelude.{codes}
use Rattle.case_types.specs.Grid.Cells.{Region, Mark, Tree, Leaf, Node, root_region, lower_half, upper_half}
use Rattle.cert_format.specs.declared.heads.Head.{Head}
use Rattle.cert_format.specs.declared.verdicts.Verdict.TheVariants.{Accepted}
use Rattle.cert_format.proofs.Exports.{heads_are_read_back}
use Rattle.cert_letters.specs.Lines.{IsGoodTree, tree_letters, line_end, Behind}
use Rattle.cert_letters.specs.Readings.{fresh}
use Rattle.cert_letters.proofs.Exports.{tree_again}
use Rattle.cert_lines.specs.Heads.{blank}
use Rattle.cert_lines.specs.HeadTexts.{HeadEnd, Whole, head_end}
use Rattle.cert_check.specs.Converse.{GoodIsAccepted}
use Rattle.cert_check.specs.Judging.{IsVerdictAfter, verdict_behind_head, verdict_after, verdict_behind_letters, verdict_at_end, verdict_behind_end}
use Rattle.cert_check.specs.Tests.{first_broken, passes}
use Rattle.cert_check.proofs.SameHeads.{AreHeadsSame, heads_same}
use Rattle.cert_check.proofs.SameTests.{broken-same, passes-same}

-- leaves that pass one test pass another that is the same
good_by : (n : ℕ) (good other : Region → Mark → Bool) → ((r : Region) (mark : Mark) → good r mark ≡ other r mark) → (t : Tree) (r : Region) →
    IsGoodTree n good t r → IsGoodTree n other t r
unfolding IsGoodTree
good_by n good other same (Leaf mark) r g = subst (λ (b : Bool). IsTrue b) (same r mark) g
good_by n good other same (Node edge lower upper) r g =
    (g.0, g.1, good_by n good other same lower (lower_half edge r) g.2, good_by n good other same upper (upper_half edge r) g.3)

-- behind the letters the text ends as it should
end_accepted : (h : Head) → verdict_at_end h [] (codes "end" ++ 10 ∷ []) ≡ Accepted h.u h.gap
unfolding verdict_at_end verdict_behind_end
end_accepted h = refl

-- what a head leads to that says the same as a good one
accepted_after : (h g : Head) (t : Tree) → AreHeadsSame h g → first_broken h ≡ None → IsGoodTree h.params.case.n (passes h) t (root_region h.params.case.n) →
    length (tree_letters h.params.case.n t) ≡ h.letters →
    verdict_behind_head g (tree_letters h.params.case.n t ++ 10 ∷ (codes "end" ++ 10 ∷ [])) ≡ Accepted h.u h.gap
unfolding verdict_behind_head
accepted_after h g t same unbroken good counted =
    let n = h.params.case.n in
    let few = h.params.case.few in
    let rest : List ℕ = codes "end" ++ 10 ∷ [] in
    let bytes : List ℕ = tree_letters n t ++ 10 ∷ rest in
    let none : first_broken g ≡ None = sym (broken-same h g same) ∙ unbroken in
    let read : line_end (passes g) (fresh n h.letters) 1 bytes ≡ Behind rest =
    tree_again n h.letters (passes g) t rest few (good_by n (passes h) (passes g) (λ r mark. passes-same h g r mark same) t (root_region n) good) counted in
    ap (λ o. verdict_after g o bytes) none
    ∙ ap (λ (k : ℕ). verdict_behind_letters g (line_end (passes g) (fresh k g.letters) 1 bytes)) (sym same.case.count)
    ∙ ap (λ (k : ℕ). verdict_behind_letters g (line_end (passes g) (fresh n k) 1 bytes)) (sym same.letters)
    ∙ ap (verdict_behind_letters g) read
    ∙ end_accepted g
    ∙ rw (same.u, same.gap) refl

pub good_is_accepted : GoodIsAccepted
good_is_accepted text h sized is v judged =
    let good = is.good in
    let n = h.params.case.n in
    let rest : List ℕ = tree_letters n is.tree ++ 10 ∷ (codes "end" ++ 10 ∷ []) in
    let back = heads_are_read_back h good.head sized in
    let ended : head_end blank [] text ≡ Whole back.0 rest = ap (head_end blank []) is.is ∙ back.1.front rest in
    let after : IsVerdictAfter (Whole back.0 rest) v = subst (λ (e : HeadEnd). IsVerdictAfter e v) ended judged in
    let own = back.1.said in
    let other = after.1 in
    let same = heads_same h after.0 good.head other.head (sym own.shape ∙ other.shape) (sym own.said ∙ other.said) in
    after.2 ∙ accepted_after h after.0 is.tree same good.unbroken good.tree_good good.counted
