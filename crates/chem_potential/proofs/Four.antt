-- Four answers.
use Rattle.std.proofs.Common.{◌≡◌, ℕ, zero, suc, ◌+◌, ◌^◌, ◌<◌, ◌≤◌, [], ◌∷◌, ℤ, pos, unsigned_abs, slice_index_or, IsTrue, nat_lt, true, to_z, of_z, refl, arith}
use Rattle.std.specs.Int.{w128}
use Rattle.std.proofs.lemmas.Bool.{lt-ltb}
use Rattle.log_laws.proofs.Exports.{back}
use Rattle.case_types.specs.Ranges.{is_each_below}

-- a number of at most 2^60 is read back as it is, and passes the test
small : (z : ℤ) → unsigned_abs z ≤ 2 ^ 60 → nat_lt (unsigned_abs (to_z w128 (of_z w128 z))) (2 ^ 60 + 1) ≡ true
small z h = rw (back z (omega (arith, h))) (lt-ltb (unsigned_abs z) (2 ^ 60 + 1) (omega (arith, h)))

-- four small numbers pass the test together
pub all_small : (a b c d : ℤ) → unsigned_abs a ≤ 2 ^ 60 → unsigned_abs b ≤ 2 ^ 60 → unsigned_abs c ≤ 2 ^ 60 → unsigned_abs d ≤ 2 ^ 60 →
    IsTrue (is_each_below 4 (to_z w128 (of_z w128 a) ∷ to_z w128 (of_z w128 b) ∷ to_z w128 (of_z w128 c) ∷ to_z w128 (of_z w128 d) ∷ []) (2 ^ 60 + 1))
all_small a b c d ha hb hc hd = rw (small a ha, small b hb, small c hc, small d hd) refl

-- the entries from n on are 0 if each of them is
pub all_vacant : (n : ℕ) (a b c d : ℤ) → (n ≤ 0 → a ≡ pos 0) → (n ≤ 1 → b ≡ pos 0) → (n ≤ 2 → c ≡ pos 0) → (n ≤ 3 → d ≡ pos 0) →
    (i : ℕ) → n ≤ i → i < 4 →
    slice_index_or (to_z w128 (of_z w128 a) ∷ to_z w128 (of_z w128 b) ∷ to_z w128 (of_z w128 c) ∷ to_z w128 (of_z w128 d) ∷ []) i (pos 0) ≡ pos 0
all_vacant n a b c d ha hb hc hd zero h l = rw (ha h) refl
all_vacant n a b c d ha hb hc hd (suc zero) h l = rw (hb h) refl
all_vacant n a b c d ha hb hc hd (suc (suc zero)) h l = rw (hc h) refl
all_vacant n a b c d ha hb hc hd (suc (suc (suc zero))) h l = rw (hd h) refl
all_vacant n a b c d ha hb hc hd (suc (suc (suc (suc i)))) h l = absurd (omega (arith, l))
