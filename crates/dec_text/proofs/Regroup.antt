-- Appending piece after piece is appending them all.
use Rattle.std.proofs.Common.{◌≡◌, ℕ, List, [], ◌++◌, append_assoc, append-nil, subst, sym}
use Rattle.dec_text.specs.Appending.{Adds}

-- one piece and then the next
pub adds-then : {o p q a b : List ℕ} → Adds o p a → Adds p q b → Adds o q (a ++ b)
adds-then {o = o} {a = a} {b = b} first second = record { is = rw second.is (rw first.is (append_assoc o a b)) }

-- another way to write what was appended
pub adds-as : {o p a : List ℕ} (b : List ℕ) → a ≡ b → Adds o p a → Adds o p b
adds-as {o = o} {p = p} b same all = subst (λ (t : List ℕ). Adds o p t) same all

-- nothing was appended
pub adds-nothing : (o : List ℕ) → Adds o o []
adds-nothing o = record { is = sym (append-nil o) }
