use Rattle.std.proofs.Common.{ℕ, ◌+◌, ◌-◌, ◌*◌, ◌/◌, ◌%◌, ◌<◌, ◌≡◌, ap, sym, ◌∙◌, arith, lit<, rules}
use Rattle.std.proofs.Math.Nat.{add-mul-div_right}
use Rattle.log_laws.specs.Whole.{ceil_quotient}
use Rattle.report_text.specs.declared.joules.TheConstants.{DIVISOR}
use Rattle.report_text.proofs.joules.over_bits_up.Goals as goal

-- a quotient of a product, rounded up, from the whole of a quotient of one factor and its rest
scaled_ceiling : (a s t : ℕ) → 0 < s → ceil_quotient (a * t) s ≡ (a / s) * t + ceil_quotient ((a % s) * t) s
scaled_ceiling a s t h =
    let e : a ≡ (a / s) * s + a % s = omega (arith, h) in
    let apart : a * t + (s - 1) ≡ ((a % s) * t + (s - 1)) + ((a / s) * t) * s = ap (λ (x : ℕ). x * t + (s - 1)) e ∙ spread (a / s) (a % s) s t in
    ap (λ (x : ℕ). x / s) apart ∙ add-mul-div_right ((a % s) * t + (s - 1)) ((a / s) * t) h ∙ omega arith
  where
    spread : (q r s t : ℕ) → (q * s + r) * t + (s - 1) ≡ (r * t + (s - 1)) + (q * t) * s
    spread q r s t = omega arith

pub returns-clause-value : goal.returns-clause-value
returns-clause-value c =
    let rest : c.div_ceil.result ≡ ceil_quotient (c.args.n % DIVISOR * c.args.heat) DIVISOR = search rules in
    rw rest (sym (scaled_ceiling c.args.n DIVISOR c.args.heat (lit< tt)))
