-- What is kept of the last leaf stays what it is said to be.
use Rattle.std.proofs.Common.{◌≡◌, ℕ, List, ℤ, Some, None, ◌⊎◌, inl, inr, refl, sym, ◌∙◌, subst}
use Rattle.case_types.specs.declared.parts.MixSlope.{MixSlope}
use Rattle.case_types.specs.declared.parts.PackingLogs.{PackingLogs}
use Rattle.case_types.specs.Grid.Cells.{Region, box_of_region}
use Rattle.box_search.specs.declared.parts.BoxParts.{BoxParts}
use Rattle.box_search.specs.Parts.{Meanings, IsOverBox, AreLogsAt}
use Rattle.cert_check.specs.declared.kept.Kept.{Kept}
use Rattle.cert_check.specs.Kept.{IsKept, Turns}

-- ---- a turn to other compositions
pub turned : (m : Meanings) (lam : List ℤ) (lo hi : List ℕ) (k l : Kept) → Turns lo hi k l → IsKept m lam k → IsKept m lam l
turned m lam lo hi k l t h = by_either t.same
  where
    by_either : (l ≡ k) ⊎ ((l.over ≡ None) × (l.slope ≡ None) × (l.from ≡ k.from) × (l.to ≡ k.to)) → IsKept m lam l
    by_either (inl e) = rw e h
    by_either (inr n) = record {
      over = rw n.0 tt;
      slope = rw n.1 tt;
      from = rw n.2 h.from;
      to = rw n.3 h.to;
    }

-- ---- the compositions of a cell
box_same : (n : ℕ) (r s : Region) → r.lo ≡ s.lo → r.hi ≡ s.hi → box_of_region n r ≡ box_of_region n s
box_same n r s e f = rw (e, f) refl

pub over_same : (m : Meanings) (lam : List ℤ) (r s : Region) (over : BoxParts) → r.lo ≡ s.lo → r.hi ≡ s.hi → IsOverBox m lam s over → IsOverBox m lam r over
over_same m lam r s over e f h = record { mix = rw (box_same m.count r s e f) h.mix; plane = rw (box_same m.count r s e f) h.plane }

-- with the parts of a plain low
pub with_over : (m : Meanings) (lam : List ℤ) (k : Kept) (r : Region) (over : BoxParts) (from to : PackingLogs) → IsKept m lam k → k.lo ≡ r.lo → k.hi ≡ r.hi
    → IsOverBox m lam r over → AreLogsAt m r.ylo from → AreLogsAt m r.yhi to
    → IsKept m lam (record { lo = k.lo; hi = k.hi; over = Some over; slope = k.slope; from = Some from; to = Some to })
with_over m lam k r over from to h lo hi o f t = record {
  over = λ s e g. over_same m lam s r over (e ∙ lo) (g ∙ hi) o;
  slope = h.slope;
  from = subst (λ (y : ℕ). m.are_logs y from) (sym f.0) f.1;
  to = subst (λ (y : ℕ). m.are_logs y to) (sym t.0) t.1;
}

-- with the parts of a slope low
pub with_slope : (m : Meanings) (lam : List ℤ) (k : Kept) (r : Region) (slope : MixSlope) (from to : PackingLogs) → IsKept m lam k → k.lo ≡ r.lo → k.hi ≡ r.hi
    → m.is_mix_slope lam r.lo r.hi slope → AreLogsAt m r.ylo from → AreLogsAt m r.yhi to
    → IsKept m lam (record { lo = k.lo; hi = k.hi; over = k.over; slope = Some slope; from = Some from; to = Some to })
with_slope m lam k r slope from to h lo hi o f t = record {
  over = h.over;
  slope = rw (lo, hi) o;
  from = subst (λ (y : ℕ). m.are_logs y from) (sym f.0) f.1;
  to = subst (λ (y : ℕ). m.are_logs y to) (sym t.0) t.1;
}

-- ---- what was kept
pub kept_over : (m : Meanings) (lam : List ℤ) (k : Kept) (r : Region) (over : BoxParts) → IsKept m lam k → k.lo ≡ r.lo → k.hi ≡ r.hi → k.over ≡ Some over → IsOverBox m lam r over
kept_over m lam k r over h lo hi e =
    let own : (s : Region) → s.lo ≡ k.lo → s.hi ≡ k.hi → IsOverBox m lam s over = rw e at h.over in
    own r (sym lo) (sym hi)

pub kept_slope : (m : Meanings) (lam : List ℤ) (k : Kept) (r : Region) (slope : MixSlope) → IsKept m lam k → k.lo ≡ r.lo → k.hi ≡ r.hi → k.slope ≡ Some slope → m.is_mix_slope lam r.lo r.hi slope
kept_slope m lam k r slope h lo hi e =
    let own : m.is_mix_slope lam k.lo k.hi slope = rw e at h.slope in
    rw (lo, hi) at own
