use Rattle.std.proofs.Common.{◌≡◌, ◌≤◌, ◌+◌, ◌^◌, ℤ, ◌+ℤ◌, ◌-ℤ◌, unsigned_abs, to_z, of_z, refl, arith}
use Rattle.std.specs.Int.{w128}
use Rattle.std.proofs.lemmas.Int.{ints}
use Rattle.log_laws.proofs.Exports.{back}
use Rattle.pr_params.proofs.terms.energy_of_terms.Goals as goal
use Rattle.pr_params.proofs.terms.energy_of_terms.Goals.{Start}

abbrev read : ℤ → ℤ
read z = to_z w128 (of_z w128 z)

-- the size of a sum, and of a difference
abs_add : (a b : ℤ) → unsigned_abs (a +ℤ b) ≤ unsigned_abs a + unsigned_abs b
abs_add a b = omega (arith, ints)

abs_sub : (a b : ℤ) → unsigned_abs (a -ℤ b) ≤ unsigned_abs a + unsigned_abs b
abs_sub a b = omega (arith, ints)

-- the sum isn't larger than its terms together
size : (m v l k q : ℤ) → unsigned_abs (m +ℤ v -ℤ l -ℤ k -ℤ q) ≤ unsigned_abs m + unsigned_abs v + unsigned_abs l + unsigned_abs k + unsigned_abs q
size m v l k q =
    let a = abs_add m v in
    let b = abs_sub (m +ℤ v) l in
    let d = abs_sub (m +ℤ v -ℤ l) k in
    let e = abs_sub (m +ℤ v -ℤ l -ℤ k) q in
    omega (arith, a, b, d, e)

-- the sum as it is computed
sum_is : (c : Start) → read (read (read (read c.args.mixing +ℤ read c.args.volume) -ℤ read c.args.log_covolume) -ℤ read c.args.log_rest) -ℤ read c.args.attraction
    ≡ c.args.mixing +ℤ c.args.volume -ℤ c.args.log_covolume -ℤ c.args.log_rest -ℤ c.args.attraction
sum_is c =
    let m = c.args.mixing in
    let v = c.args.volume in
    let l = c.args.log_covolume in
    let k = c.args.log_rest in
    let q = c.args.attraction in
    let r = c.requires in
    let a = abs_add m v in
    let b = abs_sub (m +ℤ v) l in
    let d = abs_sub (m +ℤ v -ℤ l) k in
    rw (
      back m (omega (arith, r.mixing)),
      back v (omega (arith, r.volume)),
      back l (omega (arith, r.log_covolume)),
      back k (omega (arith, r.log_rest)),
      back q (omega (arith, r.attraction)),
      back (m +ℤ v) (omega (arith, r.mixing, r.volume, a)),
      back (m +ℤ v -ℤ l) (omega (arith, r.mixing, r.volume, r.log_covolume, a, b)),
      back (m +ℤ v -ℤ l -ℤ k) (omega (arith, r.mixing, r.volume, r.log_covolume, r.log_rest, a, b, d)),
    ) refl

small : (c : Start) → unsigned_abs (c.args.mixing +ℤ c.args.volume -ℤ c.args.log_covolume -ℤ c.args.log_rest -ℤ c.args.attraction) ≤ 2 ^ 88
small c =
    let r = c.requires in
    let s = size c.args.mixing c.args.volume c.args.log_covolume c.args.log_rest c.args.attraction in
    omega (arith, s, r.mixing, r.volume, r.log_covolume, r.log_rest, r.attraction)

pub overflow_sub-result-3 : goal.overflow_sub-result-3
overflow_sub-result-3 c = let s = small c in rw (sum_is c) (omega (arith, ints, s))

pub returns-clause-value : goal.returns-clause-value
returns-clause-value c = let s = small c in rw (sum_is c) (back _ (omega (arith, s)))

pub returns-clause-small : goal.returns-clause-small
returns-clause-small c = rw (returns-clause-value c) (small c)

pub returns-clause-sum : goal.returns-clause-sum
returns-clause-sum c = rw (returns-clause-value c) (size c.args.mixing c.args.volume c.args.log_covolume c.args.log_rest c.args.attraction)
