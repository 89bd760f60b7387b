-- Each letter that isn't refused is one of the stated number.
use Rattle.std.proofs.Common.{◌≡◌, ℕ, zero, suc, ◌+◌, ◌≤◌, arith, Bool, true, false, ◌||◌, if◌then◌else◌, Option, Some, None}
use Rattle.std.specs.Prelude.{◌==◌}
use Rattle.case_types.specs.Grid.Cells.{Region, Step, Ends, Halves, Visit}
use Rattle.cert_letters.specs.Readings.{Reading, visit_of, visit_of_first, next, by_step, LettersCount}

less : (r : Reading) (c : Region) (s : Step) → 1 ≤ r.left → (by_step r c s).left + 1 ≡ r.left
less r c (Ends mark) some = omega (arith, some)
less r c (Halves edge) some = omega (arith, some)

-- where a letter is taken there is one left
some_left : (failed : Bool) (left : ℕ) (o : Option Visit) (v : Visit) → (if failed || left == 0 then None else o) ≡ Some v → 1 ≤ left
some_left true left o v e = absurd cc
some_left false zero o v e = absurd cc
some_left false (suc left) o v e = omega arith

taken_of_left : (r : Reading) (byte : ℕ) (v : Visit) → visit_of r byte ≡ Some v → 1 ≤ r.left
unfolding visit_of
taken_of_left r byte v e = some_left r.failed r.left (visit_of_first r.count byte r.cells) v e

pub letters_count : LettersCount
unfolding next
letters_count r byte v e = rw e (less r v.region v.step (taken_of_left r byte v e))
