-- The intervals that a `Params` keeps are the ends of its numbers, component by component and pair by pair.
use Rattle.std.proofs.Common.{◌≡◌, ℕ, zero, suc, ◌<◌, ◌≤◌, ◌^◌, ap, sym, ◌∙◌, arith, List, [], ◌∷◌, length, get_or, map, take, length-take, ℤ, pos, unsigned_abs, to_z, of_z, IsTrue, nat_le, slice_index_or}
use Rattle.std.specs.Int.{w128}
use Rattle.std.proofs.lemmas.List.{get_or-take, get_or-map}
use Rattle.log_laws.specs.Between.{Ends}
use Rattle.log_laws.specs.Sums.{all_below}
use Rattle.log_laws.proofs.Exports.{back, four_small}
use Rattle.log_laws.specs.declared.iv.Iv.{Iv}
use Rattle.log_laws.specs.Interval.{ends_of}
use Rattle.case_types.specs.Arithmetic.Numbers.{Numbers, numbers_of}
use Rattle.case_types.specs.Energy.Printed.{ends_in}
use Rattle.case_types.specs.Arithmetic.Tables.{ends_at, ends_of_pair, no_ends}
use Rattle.pr_params.specs.declared.numbers.Params.{Params}

-- an item of the first n
item_in : {X Y : Type 0} (f : X → Y) (n i : ℕ) (xs : List X) (d : X) (e : Y) → i < n → n ≤ length xs → f (get_or xs i d) ≡ get_or (map f (take n xs)) i e
item_in f n i xs d e h k =
    ap f (sym (get_or-take n xs i d h)) ∙ sym (get_or-map f (take n xs) i d e (simp length-take (omega (arith, h, k))))

pub ends_held : (n i : ℕ) (vs : List Iv) (d : Iv) → i < n → n ≤ length vs → ends_of (get_or vs i d) ≡ ends_at (ends_in n vs) i
ends_held n i vs d h k = item_in ends_of n i vs d no_ends h k

pub covolume_held_at : (p : Params) (i : ℕ) (d : Iv) → i < p.case.n → p.case.n ≤ length p.b → ends_of (get_or p.b i d) ≡ ends_at (numbers_of p.case).covolumes i
covolume_held_at p i d h k = ends_held p.case.n i p.b d h k ∙ ap (λ (q : Numbers). ends_at q.covolumes i) p.right

pub attraction_held_at : (p : Params) (i j : ℕ) (r : List Iv) (d : Iv) → i < p.case.n → j < p.case.n → p.case.n ≤ length p.a → p.case.n ≤ length (get_or p.a i r)
    → ends_of (get_or (get_or p.a i r) j d) ≡ ends_of_pair (numbers_of p.case).attractions i j
attraction_held_at p i j r d h g k l =
    ends_held p.case.n j (get_or p.a i r) d g l
    ∙ ap (λ (vs : List Ends). ends_at vs j) (item_in (ends_in p.case.n) p.case.n i p.a r [] h k)
    ∙ ap (λ (q : Numbers). ends_of_pair q.attractions i j) p.right

-- the ends of four co-volumes, as 128 bits keep them
pub covolume_low_read : (p : Params) (i : ℕ) (d : Iv) → 4 ≤ length p.b → i < p.case.n → to_z w128 (of_z w128 (get_or p.b i d).lo) ≡ (ends_at (numbers_of p.case).covolumes i).lo
covolume_low_read p i d all h =
    let few = p.case.few in
    let small = (get_or p.b i d).lo_small in
    back (get_or p.b i d).lo (omega (arith, small)) ∙ ap (λ (v : Ends). v.lo) (covolume_held_at p i d h (omega (arith, few, all)))

pub covolume_high_read : (p : Params) (i : ℕ) (d : Iv) → 4 ≤ length p.b → i < p.case.n → to_z w128 (of_z w128 (get_or p.b i d).hi) ≡ (ends_at (numbers_of p.case).covolumes i).hi
covolume_high_read p i d all h =
    let few = p.case.few in
    let small = (get_or p.b i d).hi_small in
    back (get_or p.b i d).hi (omega (arith, small)) ∙ ap (λ (v : Ends). v.hi) (covolume_held_at p i d h (omega (arith, few, all)))

pub four_read_small : (a b c d : ℤ) → unsigned_abs a < 2 ^ 62 → unsigned_abs b < 2 ^ 62 → unsigned_abs c < 2 ^ 62 → unsigned_abs d < 2 ^ 62 →
    IsTrue (all_below 4 (λ i. nat_le (unsigned_abs (slice_index_or (to_z w128 (of_z w128 a) ∷ to_z w128 (of_z w128 b) ∷ to_z w128 (of_z w128 c) ∷ to_z w128 (of_z w128 d) ∷ []) i (pos 0))) (2 ^ 80)))
four_read_small a b c d ha hb hc hd =
    four_small (2 ^ 80) (λ i. slice_index_or (a ∷ b ∷ c ∷ d ∷ []) i (pos 0)) _ _ _ _ (back a (omega (arith, ha))) (back b (omega (arith, hb))) (back c (omega (arith, hc)))
    (back d (omega (arith, hd))) each
  where
    each : (i : ℕ) → i < 4 → unsigned_abs (slice_index_or (a ∷ b ∷ c ∷ d ∷ []) i (pos 0)) ≤ 2 ^ 80
    each zero h = omega (arith, ha)
    each (suc zero) h = omega (arith, hb)
    each (suc (suc zero)) h = omega (arith, hc)
    each (suc (suc (suc zero))) h = omega (arith, hd)
    each (suc (suc (suc (suc i)))) h = absurd (omega (arith, h))
