-- Numbers and lists with their faults, step by step.
use Rattle.std.proofs.Common.{◌≡◌, ℕ, ◌^◌, List, length, true, false, refl}
use Rattle.std.specs.Prelude.{Result, Ok, Err, ◌==◌, nat_le}
use Rattle.std.specs.List.{sum}
use Rattle.dec_text.specs.Decimals.{decimal_of}
use Rattle.dec_text.specs.declared.faults.DecFault.{DecFault}
use Rattle.case_words.specs.declared.faults.WordFault.{WordFault}
use Rattle.case_words.specs.declared.faults.WordFault.TheVariants.{Value, Range, Count, Twice}
use Rattle.case_words.specs.Answers.{◌>>=◌, each_of}
use Rattle.case_words.specs.Names.{name_of, are_different}
use Rattle.case_words.specs.Items.{valued, number_of, is_within, edition_by, edition_of, items_of, up_to_four, parts_of, names_of}

-- ---- a number
pub number-value : (place places low high : ℕ) (text : List ℕ) (fault : DecFault) → decimal_of places (10 ^ 15) text ≡ Err fault
    → number_of place places low high text ≡ Err (Value place fault)
unfolding number_of
number-value place places low high text fault e = rw e refl

pub number-range : (place places low high : ℕ) (text : List ℕ) (n : ℕ) → decimal_of places (10 ^ 15) text ≡ Ok n → is_within low high n ≡ false
    → number_of place places low high text ≡ Err (Range place)
unfolding number_of
number-range place places low high text n e out = rw (e, out) refl

pub number-good : (place places low high : ℕ) (text : List ℕ) (n : ℕ) → decimal_of places (10 ^ 15) text ≡ Ok n → is_within low high n ≡ true
    → number_of place places low high text ≡ Ok n
unfolding number_of
number-good place places low high text n e inside = rw (e, inside) refl

-- ---- an edition
pub edition-read : (place : ℕ) (text : List ℕ) (r : Result ℕ WordFault) → number_of place 0 76 78 text ≡ r
    → edition_of place text ≡ (r >>= edition_by place)
unfolding edition_of
edition-read place text r e = rw e refl

pub edition-neither : (place year : ℕ) → (year == 76) ≡ false → (year == 78) ≡ false → edition_by place year ≡ Err (Range place)
edition-neither place year first second = rw (first, second) refl

-- ---- lists
pub many-items : {A : Type 0} (place : ℕ) (read : List ℕ → Result A WordFault) (text : List ℕ) → nat_le (length (items_of text)) 4 ≡ false
    → up_to_four place read text ≡ Err (Count place)
unfolding up_to_four
many-items place read text e = rw e refl

pub few-items : {A : Type 0} (place : ℕ) (read : List ℕ → Result A WordFault) (text : List ℕ) → nat_le (length (items_of text)) 4 ≡ true
    → up_to_four place read text ≡ each_of read (items_of text)
unfolding up_to_four
few-items place read text e = rw e refl

-- ---- the feed
pub parts-fault : (place : ℕ) (text : List ℕ) (fault : WordFault) → up_to_four place (number_of place 0 0 1048576) text ≡ Err fault
    → parts_of place text ≡ Err fault
unfolding parts_of
parts-fault place text fault e = rw e refl

pub parts-range : (place : ℕ) (text : List ℕ) (parts : List ℕ) → up_to_four place (number_of place 0 0 1048576) text ≡ Ok parts
    → is_within 1 1048576 (sum parts) ≡ false → parts_of place text ≡ Err (Range place)
unfolding parts_of
parts-range place text parts e out = rw (e, out) refl

pub parts-good : (place : ℕ) (text : List ℕ) (parts : List ℕ) → up_to_four place (number_of place 0 0 1048576) text ≡ Ok parts
    → is_within 1 1048576 (sum parts) ≡ true → parts_of place text ≡ Ok parts
unfolding parts_of
parts-good place text parts e inside = rw (e, inside) refl

-- ---- names
abbrev pub read_as_name : ℕ → List ℕ → Result (List ℕ) WordFault
read_as_name place item = valued place (name_of item)

pub names-fault : (place : ℕ) (text : List ℕ) (fault : WordFault) → up_to_four place (read_as_name place) text ≡ Err fault → names_of place text ≡ Err fault
unfolding names_of
names-fault place text fault e = rw e refl

pub names-twice : (place : ℕ) (text : List ℕ) (names : List (List ℕ)) → up_to_four place (read_as_name place) text ≡ Ok names
    → are_different names ≡ false → names_of place text ≡ Err (Twice place)
unfolding names_of
names-twice place text names e same = rw (e, same) refl

pub names-good : (place : ℕ) (text : List ℕ) (names : List (List ℕ)) → up_to_four place (read_as_name place) text ≡ Ok names
    → are_different names ≡ true → names_of place text ≡ Ok names
unfolding names_of
names-good place text names e differ = rw (e, differ) refl
