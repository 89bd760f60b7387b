use Rattle.std.proofs.Common.{zero, suc, ◌^◌, neg_ℤ, arith}
use Rattle.std.proofs.lemmas.Int.{ints}
use Rattle.log_laws.proofs.Exports.{four_small, each_of_four_small, opposite_read}
use Rattle.fix_interval.proofs.Steps.{number_of}
use Rattle.fix_interval.proofs.linear.opposites.Goals as goal

pub returns-clause-value : goal.returns-clause-value
returns-clause-value c zero h = let small = each_of_four_small c.args.numbers.now (2 ^ 80) 0 c.requires h in opposite_read (number_of c.args.numbers.now 0) (omega (arith, small))
returns-clause-value c (suc zero) h = let small = each_of_four_small c.args.numbers.now (2 ^ 80) 1 c.requires h in opposite_read (number_of c.args.numbers.now 1) (omega (arith, small))
returns-clause-value c (suc (suc zero)) h = let small = each_of_four_small c.args.numbers.now (2 ^ 80) 2 c.requires h in opposite_read (number_of c.args.numbers.now 2) (omega (arith, small))
returns-clause-value c (suc (suc (suc zero))) h = let small = each_of_four_small c.args.numbers.now (2 ^ 80) 3 c.requires h in opposite_read (number_of c.args.numbers.now 3) (omega (arith, small))
returns-clause-value c (suc (suc (suc (suc i)))) h = absurd (omega (arith, h))

pub returns-clause-small : goal.returns-clause-small
returns-clause-small c =
    four_small (2 ^ 80) (λ i. neg_ℤ (number_of c.args.numbers.now i)) _ _ _ _ (returns-clause-value c 0 (omega arith)) (returns-clause-value c 1 (omega arith))
    (returns-clause-value c 2 (omega arith)) (returns-clause-value c 3 (omega arith))
    (λ i h. let own = each_of_four_small c.args.numbers.now (2 ^ 80) i c.requires h in omega (arith, ints, own))
