-- Rising numbers, with one more behind them.
use Rattle.std.proofs.Common.{◌≡◌, ℕ, ◌+◌, ◌≤◌, List, [], ◌∷◌, ◌++◌, Bool, true, false, refl, arith}
use Rattle.std.specs.Prelude.{◌==◌, cond, nat_lt}
use Rattle.std.specs.List.{list_all}
use Rattle.std.proofs.lemmas.Bool.{and_parts, ltb-true, lt-ltb}
use Rattle.component_table.specs.Choosing.{PlainChosen, with_part}
use Rattle.component_table.specs.Rising.{is_rising, AreRisingBelow}
use Rattle.component_table.proofs.Apart.{all-weaker}
use Rattle.component_table.proofs.Kept.{all-push}

rising-push : (ks : List ℕ) (i : ℕ) → is_rising ks ≡ true → list_all (λ k. nat_lt k i) ks ≡ true → is_rising (ks ++ i ∷ []) ≡ true
unfolding is_rising
rising-push [] i rising below = refl
rising-push (k ∷ ks) i rising below =
    let first = and_parts (list_all (nat_lt k) ks) (is_rising ks) rising in
    let under = and_parts (nat_lt k i) (list_all (λ m. nat_lt m i) ks) below in
    rw (all-push (nat_lt k) ks i first.0 under.0) (rising-push ks i first.1 under.1)

-- below a greater number too
pub below-more : (m n : ℕ) (ks : List ℕ) → m ≤ n → list_all (λ k. nat_lt k m) ks ≡ true → list_all (λ k. nat_lt k n) ks ≡ true
below-more m n ks h below =
    all-weaker (λ k. nat_lt k m) (λ k. nat_lt k n) ks (λ k e. let l = ltb-true k m e in lt-ltb k n (omega (arith, h, l))) below

pub rising-none : AreRisingBelow 0 []
unfolding is_rising
rising-none = record { rising = refl; below = refl }

pub rising-fewer : (m n : ℕ) (ks : List ℕ) → m ≤ n → AreRisingBelow m ks → AreRisingBelow n ks
rising-fewer m n ks h r = record { rising = r.rising; below = below-more m n ks h r.below }

-- with the name at an index, whether or not it is live
pub rising-part : (i : ℕ) (c : PlainChosen) (place part : ℕ) → AreRisingBelow i c.live → AreRisingBelow (i + 1) (with_part i c place part).live
rising-part i c place part r = go (part == 0)
  where
    more : list_all (λ k. nat_lt k (i + 1)) c.live ≡ true
    more = below-more i (i + 1) c.live (omega arith) r.below

    go : (b : Bool) → AreRisingBelow (i + 1) (cond b c (record { live = c.live ++ i ∷ []; places = c.places ++ place ∷ []; parts = c.parts ++ part ∷ [] })).live
    go true = record { rising = r.rising; below = more }
    go false = record {
      rising = rising-push c.live i r.rising r.below;
      below = all-push (λ k. nat_lt k (i + 1)) c.live i more (lt-ltb i (i + 1) (omega arith));
    }
