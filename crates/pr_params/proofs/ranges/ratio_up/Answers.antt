use Rattle.std.proofs.Common.{◌≡◌, ◌∙◌, ◌≤ℤ◌, ◌≤◌, ◌*ℤ◌, ◌*◌, ◌^◌, ℕ, ℤ, pos, negsuc, arith, sym, to_z, of_z, unsigned_abs}
use Rattle.std.specs.Int.{w128}
use Rattle.std.proofs.lemmas.Int.{ints, to_z_pos}
use Rattle.log_laws.specs.Whole.{ceil_div, ceil_quotient}
use Rattle.log_laws.proofs.Exports.{back, ceil_over-pos}
use Rattle.pr_params.proofs.ranges.ratio_up.Goals as goal

-- the natural ratio, as it is read
read : (a c : ℤ) (q : ℕ) → pos 0 ≤ℤ a → a ≤ℤ pos (2 ^ 66) → pos (2 ^ 50) ≤ℤ c → c ≤ℤ pos (2 ^ 61) → q ≤ 2 ^ 64
    → q ≡ ceil_quotient (unsigned_abs (to_z w128 (of_z w128 a)) * 2 ^ 47) (unsigned_abs (to_z w128 (of_z w128 c)))
    → to_z w128 q ≡ ceil_div (a *ℤ pos (2 ^ 47)) c
read (pos n) (pos d) q low high from to size is =
    let plain : q ≡ ceil_quotient (n * 2 ^ 47) d = rw (back (pos n) (omega (arith, ints, high)), back (pos d) (omega (arith, ints, to))) at is in
    to_z_pos w128 q (omega (arith, size)) ∙ rw plain (sym (ceil_over-pos (n * 2 ^ 47) d (omega (arith, ints, from))))
read (pos n) (negsuc d) q low high from to size is = absurd (omega (arith, ints, from))
read (negsuc n) c q low high from to size is = absurd (omega (arith, ints, low))

pub returns-clause-value : goal.returns-clause-value
returns-clause-value c =
    let r = c.requires in
    read c.args.attraction c.args.covolume c.ceil_ratio.result r.attraction_low r.attraction_high r.covolume_low r.covolume_high c.ceil_ratio.ensures.high c.ceil_ratio.ensures.value
