use Rattle.std.proofs.Common.{◌≡◌, ℕ, ◌<◌, length, true, false, arith, rules, refl}
use Rattle.std.specs.Prelude.{◌==◌, nat_lt}
use Rattle.std.specs.List.{position_or_len}
use Rattle.std.proofs.lemmas.Bool.{lt-ltb, le-ltb}
use Rattle.std.proofs.lemmas.List.Sums.{position_or_len_is}
use Rattle.report_text.proofs.reports.part_of.Goals as goal

pub returns-then-index-i-clause-value : goal.returns-then-index-i-clause-value
returns-then-index-i-clause-value c =
    let live = c.args.live.now in
    let place : position_or_len (λ (j : ℕ). j == c.args.i) live ≡ c.loop-at.at =
    position_or_len_is (λ (j : ℕ). j == c.args.i) live c.loop-at.at 0 (omega arith) c.loop-at.invariant
    (λ (h : c.loop-at.at < length live). search rules) in
    let inside : nat_lt c.loop-at.at (length live) ≡ true = lt-ltb c.loop-at.at (length live) (omega arith) in
    rw (place, inside) refl

pub returns-clause-value : goal.returns-clause-value
returns-clause-value c =
    let live = c.args.live.now in
    let place : position_or_len (λ (j : ℕ). j == c.args.i) live ≡ length live =
    position_or_len_is (λ (j : ℕ). j == c.args.i) live (length live) 0 (omega arith)
    (λ (k : ℕ) (h : k < length live). c.loop-at.invariant k (omega arith))
    (λ (h : length live < length live). absurd (omega arith)) in
    let outside : nat_lt (length live) (length live) ≡ false = le-ltb (length live) (length live) (omega arith) in
    rw (place, outside) refl
