-- What stands for live components, and what for the others.
use Rattle.std.proofs.Common.{◌≡◌, ◌<◌, ◌≤◌, ℕ, ap, Bool}
use Rattle.std.specs.Prelude.{if◌then◌else◌}
use Rattle.std.proofs.lemmas.Bool.{le-ltb, lt-ltb}
use Rattle.cert_lines.specs.Heads.{Draft, count_of}
use Rattle.cert_format.specs.Building.{among}

pub of_live : {X : Type 0} → (d : Draft) (i : ℕ) (x none : X) → i < count_of d → among d i x none ≡ x
of_live {X} d i x none h = ap (λ (b : Bool). if b then x else none) (lt-ltb i (count_of d) h)

pub of_other : {X : Type 0} → (d : Draft) (i : ℕ) (x none : X) → count_of d ≤ i → among d i x none ≡ none
of_other {X} d i x none h = ap (λ (b : Bool). if b then x else none) (le-ltb i (count_of d) h)
