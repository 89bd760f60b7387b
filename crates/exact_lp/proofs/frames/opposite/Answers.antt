use Rattle.std.proofs.Common.{◌≡◌, ◌+◌, ◌^◌, ◌<◌, ℕ, List, ℤ, pos, neg_ℤ, unsigned_abs, slice_index_or, to_z, of_z, IsTrue, arith, ◌-ℤ◌}
use Rattle.std.specs.Int.{w128}
use Rattle.case_types.specs.Ranges.{is_each_below}
use Rattle.exact_lp.proofs.MachineNumbers.{entry_small, four_small, neg_small}
use Rattle.log_laws.proofs.Exports.{opposite_read}
use Rattle.exact_lp.proofs.MinorRows.{along_turned}
use Rattle.exact_lp.proofs.frames.opposite.Goals as goal

turned : (a : List ℤ) (i : ℕ) → i < 4 → IsTrue (is_each_below 4 a (2 ^ 60 + 1)) →
    to_z w128 (of_z w128 (pos 0 -ℤ to_z w128 (of_z w128 (slice_index_or a i (pos 0))))) ≡ neg_ℤ (slice_index_or a i (pos 0))
turned a i h t = opposite_read (slice_index_or a i (pos 0)) (omega (arith, entry_small a (2 ^ 60 + 1) i h t))

turned_small : (a : List ℤ) (i : ℕ) → i < 4 → IsTrue (is_each_below 4 a (2 ^ 60 + 1)) → unsigned_abs (neg_ℤ (slice_index_or a i (pos 0))) < 2 ^ 60 + 1
turned_small a i h t = neg_small (slice_index_or a i (pos 0)) (2 ^ 60 + 1) (entry_small a (2 ^ 60 + 1) i h t)

turned_wide : (a : List ℤ) (i : ℕ) → i < 4 → IsTrue (is_each_below 4 a (2 ^ 60 + 1)) → unsigned_abs (neg_ℤ (slice_index_or a i (pos 0))) < 2 ^ 101 + 1
turned_wide a i h t = omega (arith, turned_small a i h t)

pub invariant_of-result : goal.invariant_of-result
invariant_of-result c =
    let a = c.args.row.now.a in
    let t = c.requires.small in
    rw (turned a 0 (omega arith) t, turned a 1 (omega arith) t, turned a 2 (omega arith) t, turned a 3 (omega arith) t)
    (record {
      small = four_small (neg_ℤ (slice_index_or a 0 (pos 0))) (neg_ℤ (slice_index_or a 1 (pos 0))) (neg_ℤ (slice_index_or a 2 (pos 0))) (neg_ℤ (slice_index_or a 3 (pos 0))) (2 ^ 101 + 1)
          (turned_wide a 0 (omega arith) t) (turned_wide a 1 (omega arith) t) (turned_wide a 2 (omega arith) t) (turned_wide a 3 (omega arith) t);
    })

pub returns-clause-turned : goal.returns-clause-turned
returns-clause-turned c =
    let a = c.args.row.now.a in
    let t = c.requires.small in
    rw (turned a 0 (omega arith) t, turned a 1 (omega arith) t, turned a 2 (omega arith) t, turned a 3 (omega arith) t) (along_turned a)

pub returns-clause-small : goal.returns-clause-small
returns-clause-small c =
    let a = c.args.row.now.a in
    let t = c.requires.small in
    rw (turned a 0 (omega arith) t, turned a 1 (omega arith) t, turned a 2 (omega arith) t, turned a 3 (omega arith) t)
    (four_small (neg_ℤ (slice_index_or a 0 (pos 0))) (neg_ℤ (slice_index_or a 1 (pos 0))) (neg_ℤ (slice_index_or a 2 (pos 0))) (neg_ℤ (slice_index_or a 3 (pos 0))) (2 ^ 60 + 1)
    (turned_small a 0 (omega arith) t) (turned_small a 1 (omega arith) t) (turned_small a 2 (omega arith) t) (turned_small a 3 (omega arith) t))
