-- The text of one phase more.
use Rattle.std.proofs.Common.{◌≡◌, ℕ, ◌+◌, ◌<◌, List, [], ◌∷◌, ◌++◌, take, length, get_or, append_assoc, append-nil, ap, sym, ◌∙◌, arith, length-take}
use Rattle.std.proofs.lemmas.List.{take_more}
use Rattle.component_table.specs.declared.cases.Picked.{Picked}
use Rattle.case_types.specs.declared.phases.Phase.{Phase}
use Rattle.report_text.specs.ReportText.{phase_text, phases_text}

-- some phases and then others
pub phases_text-append : (c : Picked) (q k : ℕ) (fs gs : List Phase)
    → phases_text c q k (fs ++ gs) ≡ phases_text c q k fs ++ phases_text c q (k + length fs) gs
phases_text-append c q k [] gs = ap (λ (j : ℕ). phases_text c q j gs) (omega arith)
phases_text-append c q k (f ∷ fs) gs =
    let place : k + 1 + length fs ≡ k + length (f ∷ fs) = omega arith in
    ap (λ (t : List ℕ). phase_text c q k f ++ t)
    (phases_text-append c q (k + 1) fs gs ∙ ap (λ (j : ℕ). phases_text c q (k + 1) fs ++ phases_text c q j gs) place)
    ∙ sym (append_assoc (phase_text c q k f) (phases_text c q (k + 1) fs) (phases_text c q (k + length (f ∷ fs)) gs))

-- the first k phases and then one more
pub phases_text-take : (c : Picked) (q : ℕ) (fs : List Phase) (k : ℕ) (d : Phase) → k < length fs
    → phases_text c q 1 (take k fs) ++ phase_text c q (k + 1) (get_or fs k d) ≡ phases_text c q 1 (take (k + 1) fs)
phases_text-take c q fs k d below =
    let f = get_or fs k d in
    let place : 1 + length (take k fs) ≡ k + 1 = simp length-take (omega arith) in
    sym (ap (phases_text c q 1) (take_more fs k d below)
    ∙ phases_text-append c q 1 (take k fs) (f ∷ [])
    ∙ ap (λ (j : ℕ). phases_text c q 1 (take k fs) ++ (phase_text c q j f ++ [])) place
    ∙ ap (λ (t : List ℕ). phases_text c q 1 (take k fs) ++ t) (append-nil (phase_text c q (k + 1) f)))
