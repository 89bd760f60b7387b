-- Bytes that are told, piece after piece.
use Rattle.std.proofs.Common.{◌≡◌, ℕ, ◌+◌, List, ◌++◌, take, drop, Some, None, refl, append_assoc, ap, sym}
use Rattle.std.proofs.Math.Seq.{take-add}
use Rattle.std.proofs.lemmas.List.{take-append-drop, drop-drop}
use Rattle.std.specs.declared.option.Option.{Option}
use Rattle.io_edge.specs.Bytes.{ahead, behind}

pub ahead-more : (a b : List ℕ) (o : Option (List ℕ)) → ahead a (ahead b o) ≡ ahead (a ++ b) o
ahead-more a b None = refl
ahead-more a b (Some rest) = ap Some (sym (append_assoc a b rest))

pub behind-more : (a b : List ℕ) (o : Option (List ℕ)) → behind (behind o a) b ≡ behind o (a ++ b)
behind-more a b None = refl
behind-more a b (Some before) = ap Some (append_assoc before a b)

-- after a read of n bytes more
pub ahead-step : (a b : List ℕ) (o p q : Option (List ℕ)) → o ≡ ahead a p → p ≡ ahead b q → o ≡ ahead (a ++ b) q
ahead-step a b o p q first second = rw first (rw second (ahead-more a b q))

pub behind-step : (a b : List ℕ) (o p q : Option (List ℕ)) → p ≡ behind o a → q ≡ behind p b → q ≡ behind o (a ++ b)
behind-step a b o p q first second = rw second (rw first (behind-more a b o))

-- after a write of n bytes more
pub behind-take : (done n : ℕ) (bytes : List ℕ) (o p q : Option (List ℕ)) → p ≡ behind o (take done bytes)
    → q ≡ behind p (take n (drop done bytes)) → q ≡ behind o (take (done + n) bytes)
behind-take done n bytes o p q first second = rw take-add (behind-step _ _ o p q first second)

pub drop-split : (at n : ℕ) (bytes : List ℕ) → drop at bytes ≡ take n (drop at bytes) ++ drop (at + n) bytes
drop-split at n bytes = rw (← drop-drop n at bytes) (sym (take-append-drop n (drop at bytes)))
