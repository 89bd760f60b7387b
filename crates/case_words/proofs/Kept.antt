-- What is kept of all that words have given, word by word.
use Rattle.std.proofs.Common.{◌≡◌, ℕ, List, [], ◌∷◌, length, Bool, true, false, ◌&&◌, refl, sym, ap, subst, ◌∙◌, ◌^◌, arith}
use Rattle.std.specs.Prelude.{Option, Some, None, Result, Ok, Err, IfSome, cond, nat_lt, nat_le, ◌==◌}
use Rattle.std.specs.List.{list_all, sum, position_or_len, before_first, after_first}
use Rattle.std.proofs.lemmas.Bool.{eqb-true, eqb-false, and_parts, and_from, le-leb}
use Rattle.case_types.specs.Ranges.{is_name_byte}
use Rattle.case_types.specs.declared.cases.Edition.{Edition}
use Rattle.case_words.specs.declared.boundaries.By.{By}
use Rattle.case_words.specs.declared.boundaries.By.TheVariants.{Pressure, Temperature}
use Rattle.case_words.specs.declared.commands.Command.{Command}
use Rattle.case_words.specs.declared.keys.FlashKey.{FlashKey}
use Rattle.case_words.specs.declared.keys.FlashKey.TheVariants.{Needed, Kappa}
use Rattle.case_words.specs.declared.keys.Key.{Key}
use Rattle.case_words.specs.declared.keys.Key.TheVariants.{T, P, Lo, Hi, Width, Z, Names, Tol, Budget}
use Rattle.case_words.specs.declared.faults.WordFault.{WordFault}
use Rattle.case_words.specs.declared.faults.WordFault.TheVariants.{Unknown, Twice, Range, Count}
use Rattle.dec_text.specs.Decimals.{decimal_of}
use Rattle.dec_text.specs.declared.faults.DecFault.{DecFault}
use Rattle.dec_text.specs.declared.faults.DecFault.TheVariants.{Empty, Digit}
use Rattle.case_words.specs.Answers.{◌>>=◌, when, each_of}
use Rattle.case_words.specs.Commands.{searched_by}
use Rattle.case_words.specs.Keys.{key_of}
use Rattle.case_words.specs.Names.{name_of, is_name_length, are_different}
use Rattle.case_words.specs.Counts.{is_as_many, count_of, are_ordered}
use Rattle.case_words.specs.Quantities.{places_of, least, greatest}
use Rattle.case_words.specs.Items.{valued, is_within, number_of, quantity_of, width_of, edition_of, parts_of, names_of, items_of, up_to_four}
use Rattle.case_words.specs.Jobs.{Gathered, nothing, stands, is_equals, lo_of, hi_of, feed_of, called_of, with_needed, with_value, with_key, with_word}
use Rattle.case_words.specs.Keeping.{IsKept}

-- ---- results that are good
pub and_then_good : {A B F : Type 0} (r : Result A F) (f : A → Result B F) (y : B) → (r >>= f) ≡ Ok y → (x : A) × (r ≡ Ok x) × (f x ≡ Ok y)
and_then_good (Ok x) f y e = (x, refl, e)
and_then_good (Err fault) f y e = absurd (cc)

pub when_good : {A F : Type 0} (b : Bool) (a x : A) (fault : F) → when b a fault ≡ Ok x → (b ≡ true) × (a ≡ x)
when_good true a x fault e = (refl, cc)
when_good false a x fault e = absurd (cc)

pub if_good : {A F : Type 0} (b : Bool) (r : Result A F) (x : A) (fault : F) → cond b r (Err fault) ≡ Ok x → r ≡ Ok x
if_good true r x fault e = e
if_good false r x fault e = absurd (cc)

pub unless_good : {A F : Type 0} (b : Bool) (r : Result A F) (x : A) (fault : F) → cond b (Err fault) r ≡ Ok x → r ≡ Ok x
unless_good true r x fault e = absurd (cc)
unless_good false r x fault e = e

-- a result that isn't the fault
pub not_refused : {A F : Type 0} (b : Bool) (r : Result A F) (x : A) (fault : F) → cond b (Err fault) r ≡ Ok x → b ≡ false
not_refused false r x fault e = refl
not_refused true r x fault e = absurd (cc)

pub same_good : {A F : Type 0} (x y : A) → ◌≡◌ {A = Result A F} (Ok x) (Ok y) → x ≡ y
same_good x y e = cc

-- ---- good numbers and lists
number-within : (place places low high : ℕ) (text : List ℕ) (n : ℕ) → number_of place places low high text ≡ Ok n → is_within low high n ≡ true
unfolding number_of
number-within place places low high text n e =
    let step = and_then_good (valued place (decimal_of places (10 ^ 15) text)) (λ (m : ℕ). when (is_within low high m) m (Range place)) n e in
    let good = when_good (is_within low high step.0) step.0 n (Range place) step.2 in
    ap (is_within low high) (sym good.1) ∙ good.0

quantity-within : (place : ℕ) (by : By) (text : List ℕ) (n : ℕ) → quantity_of place by text ≡ Ok n → is_within (least by) (greatest by) n ≡ true
unfolding quantity_of
quantity-within place by text n e = number-within place (places_of by) (least by) (greatest by) text n e

width-within : (place : ℕ) (by : By) (text : List ℕ) (n : ℕ) → width_of place by text ≡ Ok n → is_within 1 4294967295 n ≡ true
unfolding width_of
width-within place by text n e = number-within place (places_of by) 1 4294967295 text n e

parts-within : (place : ℕ) (text parts : List ℕ) → parts_of place text ≡ Ok parts → is_within 1 1048576 (sum parts) ≡ true
unfolding parts_of
parts-within place text parts e =
    let step = and_then_good (up_to_four place (number_of place 0 0 1048576) text) (λ (zs : List ℕ). when (is_within 1 1048576 (sum zs)) zs (Range place)) parts e in
    let good = when_good (is_within 1 1048576 (sum step.0)) step.0 parts (Range place) step.2 in
    ap (λ (zs : List ℕ). is_within 1 1048576 (sum zs)) (sym good.1) ∙ good.0

names-differ : (place : ℕ) (text : List ℕ) (names : List (List ℕ)) → names_of place text ≡ Ok names → are_different names ≡ true
unfolding names_of
names-differ place text names e =
    let step = and_then_good (up_to_four place (λ (item : List ℕ). valued place (name_of item)) text) (λ (ns : List (List ℕ)). when (are_different ns) ns (Twice place)) names e in
    let good = when_good (are_different step.0) step.0 names (Twice place) step.2 in
    ap are_different (sym good.1) ∙ good.0

-- ---- names of 1 to 16 bytes
pub name-long : (text name : List ℕ) → name_of text ≡ Ok name → is_name_length name ≡ true
unfolding name_of
name-long text name e =
    let some = not_refused (length text == 0) (cond (nat_le (length text) 16 && list_all is_name_byte text) (Ok text) (Err Digit)) name Empty e in
    let long = unless_good (length text == 0) (cond (nat_le (length text) 16 && list_all is_name_byte text) (Ok text) (Err Digit)) name Empty e in
    let good = when_good (nat_le (length text) 16 && list_all is_name_byte text) text name Digit long in
    let short = (and_parts (nat_le (length text) 16) (list_all is_name_byte text) good.0).0 in
    ap is_name_length (sym good.1) ∙ and_from (nat_le 1 (length text)) (nat_le (length text) 16) (le-leb 1 (length text) (omega (arith, eqb-false (length text) 0 some))) short

valued-good : {A : Type 0} (place : ℕ) (r : Result A DecFault) (x : A) → valued place r ≡ Ok x → r ≡ Ok x
valued-good place (Ok a) x e = ap {B = Result _ DecFault} Ok (same_good a x e)
valued-good place (Err fault) x e = absurd (cc)

each-good : {A B F : Type 0} (f : A → Result B F) (p : B → Bool) (xs : List A) (ys : List B) → ((x : A) (y : B) → f x ≡ Ok y → p y ≡ true)
    → each_of f xs ≡ Ok ys → list_all p ys ≡ true
unfolding each_of
each-good f p [] ys good e = ap (list_all p) (sym (same_good [] ys e))
each-good f p (x ∷ xs) ys good e =
    let first = and_then_good (f x) (λ y. each_of f xs >>= (λ zs. Ok (y ∷ zs))) ys e in
    let rest = and_then_good (each_of f xs) (λ zs. Ok (first.0 ∷ zs)) ys first.2 in
    ap (list_all p) (sym (same_good (first.0 ∷ rest.0) ys rest.2))
    ∙ and_from (p first.0) (list_all p rest.0) (good x first.0 first.1) (each-good f p xs rest.0 good rest.1)

names-long : (place : ℕ) (text : List ℕ) (names : List (List ℕ)) → names_of place text ≡ Ok names → list_all is_name_length names ≡ true
unfolding names_of up_to_four
names-long place text names e =
    let read : List ℕ → Result (List ℕ) WordFault = λ (item : List ℕ). valued place (name_of item) in
    let step = and_then_good (up_to_four place read text) (λ (ns : List (List ℕ)). when (are_different ns) ns (Twice place)) names e in
    let good = when_good (are_different step.0) step.0 names (Twice place) step.2 in
    let all = if_good (nat_le (length (items_of text)) 4) (each_of read (items_of text)) step.0 (Count place) step.1 in
    ap (list_all is_name_length) (sym good.1)
    ∙ each-good read is_name_length (items_of text) step.0 (λ item name h. name-long item name (valued-good place (name_of item) name h)) all

-- ---- ends and lists that passed their test
tested-good : {A F : Type 0} (r : Result A F) (test : A → Bool) (fault : F) (x : A) → (r >>= (λ y. when (test y) y fault)) ≡ Ok x
    → (r ≡ Ok x) × (test x ≡ true)
tested-good (Ok y) test fault x e =
    let good = when_good (test y) y x fault e in
    (ap Ok good.1, ap test (sym good.1) ∙ good.0)
tested-good (Err other) test fault x e = absurd (cc)

lo-kept : (place : ℕ) (by : By) (g : Gathered) (text : List ℕ) (n : ℕ) → lo_of place by g text ≡ Ok n
    → (is_within (least by) (greatest by) n ≡ true) × (are_ordered (Some n) g.hi ≡ true)
unfolding lo_of
lo-kept place by g text n e =
    let good = tested-good (quantity_of place by text) (λ (m : ℕ). are_ordered (Some m) g.hi) (Range place) n e in
    (quantity-within place by text n good.0, good.1)

hi-kept : (place : ℕ) (by : By) (g : Gathered) (text : List ℕ) (n : ℕ) → hi_of place by g text ≡ Ok n
    → (is_within (least by) (greatest by) n ≡ true) × (are_ordered g.lo (Some n) ≡ true)
unfolding hi_of
hi-kept place by g text n e =
    let good = tested-good (quantity_of place by text) (λ (m : ℕ). are_ordered g.lo (Some m)) (Range place) n e in
    (quantity-within place by text n good.0, good.1)

feed-kept : (place : ℕ) (g : Gathered) (text parts : List ℕ) → feed_of place g text ≡ Ok parts
    → (is_within 1 1048576 (sum parts) ≡ true) × (is_as_many (length parts) (count_of g.names) ≡ true)
unfolding feed_of
feed-kept place g text parts e =
    let good = tested-good (parts_of place text) (λ (zs : List ℕ). is_as_many (length zs) (count_of g.names)) (Count place) parts e in
    (parts-within place text parts good.0, good.1)

called-kept : (place : ℕ) (g : Gathered) (text : List ℕ) (names : List (List ℕ)) → called_of place g text ≡ Ok names
    → (are_different names ≡ true) × (list_all is_name_length names ≡ true) × (is_as_many (length names) (count_of g.z) ≡ true)
unfolding called_of
called-kept place g text names e =
    let good = tested-good (names_of place text) (λ (ns : List (List ℕ)). is_as_many (length ns) (count_of g.z)) (Count place) names e in
    (names-differ place text names good.0, names-long place text names good.0, good.1)

same_count : {A B : Type 0} (xs : List A) (others : Option (List B)) → is_as_many (length xs) (count_of others) ≡ true → IfSome others (λ ys. length xs ≡ length ys)
same_count xs None e = tt
same_count xs (Some ys) e = eqb-true (length xs) (length ys) e

same_count_back : {A B : Type 0} (xs : List A) (others : Option (List B)) → is_as_many (length xs) (count_of others) ≡ true → IfSome others (λ ys. length ys ≡ length xs)
same_count_back xs None e = tt
same_count_back xs (Some ys) e = sym (eqb-true (length xs) (length ys) e)

-- ---- the first word finds nothing to keep
pub kept-nothing : (by : By) → IsKept by nothing
kept-nothing by = record { flash = record { t = tt; p = tt; total = tt; differ = tt; named = tt; as_many = tt; tol = tt; budget = tt }; ends = record { lo = tt; hi = tt; ordered = refl; width = tt } }

-- ---- a word keeps it
kept-needed : (place : ℕ) (by : By) (g more : Gathered) (key : Key) (value : List ℕ) → with_needed place by g key value ≡ Ok more
    → IsKept by g → IsKept by more
unfolding with_needed
kept-needed place by g more T value e k =
    let step = and_then_good (quantity_of place Temperature value) (λ (n : ℕ). Ok (record g { t = Some n })) more e in
    let is : record g { t = Some step.0 } ≡ more = same_good (record g { t = Some step.0 }) more step.2 in
    subst (IsKept by) is (record { flash = record { t = quantity-within place Temperature value step.0 step.1; p = k.flash.p; total = k.flash.total; differ = k.flash.differ; named = k.flash.named; as_many = k.flash.as_many; tol = k.flash.tol; budget = k.flash.budget }; ends = record { lo = k.ends.lo; hi = k.ends.hi; ordered = k.ends.ordered; width = k.ends.width } })
kept-needed place by g more P value e k =
    let step = and_then_good (quantity_of place Pressure value) (λ (n : ℕ). Ok (record g { p = Some n })) more e in
    let is : record g { p = Some step.0 } ≡ more = same_good (record g { p = Some step.0 }) more step.2 in
    subst (IsKept by) is (record { flash = record { t = k.flash.t; p = quantity-within place Pressure value step.0 step.1; total = k.flash.total; differ = k.flash.differ; named = k.flash.named; as_many = k.flash.as_many; tol = k.flash.tol; budget = k.flash.budget }; ends = record { lo = k.ends.lo; hi = k.ends.hi; ordered = k.ends.ordered; width = k.ends.width } })
kept-needed place by g more Lo value e k =
    let step = and_then_good (lo_of place by g value) (λ (n : ℕ). Ok (record g { lo = Some n })) more e in
    let is : record g { lo = Some step.0 } ≡ more = same_good (record g { lo = Some step.0 }) more step.2 in
    let kept = lo-kept place by g value step.0 step.1 in
    subst (IsKept by) is (record { flash = record { t = k.flash.t; p = k.flash.p; total = k.flash.total; differ = k.flash.differ; named = k.flash.named; as_many = k.flash.as_many; tol = k.flash.tol; budget = k.flash.budget }; ends = record { lo = kept.0; hi = k.ends.hi; ordered = kept.1; width = k.ends.width } })
kept-needed place by g more Hi value e k =
    let step = and_then_good (hi_of place by g value) (λ (n : ℕ). Ok (record g { hi = Some n })) more e in
    let is : record g { hi = Some step.0 } ≡ more = same_good (record g { hi = Some step.0 }) more step.2 in
    let kept = hi-kept place by g value step.0 step.1 in
    subst (IsKept by) is (record { flash = record { t = k.flash.t; p = k.flash.p; total = k.flash.total; differ = k.flash.differ; named = k.flash.named; as_many = k.flash.as_many; tol = k.flash.tol; budget = k.flash.budget }; ends = record { lo = k.ends.lo; hi = kept.0; ordered = kept.1; width = k.ends.width } })
kept-needed place by g more Width value e k =
    let step = and_then_good (width_of place by value) (λ (n : ℕ). Ok (record g { width = Some n })) more e in
    let is : record g { width = Some step.0 } ≡ more = same_good (record g { width = Some step.0 }) more step.2 in
    subst (IsKept by) is (record { flash = record { t = k.flash.t; p = k.flash.p; total = k.flash.total; differ = k.flash.differ; named = k.flash.named; as_many = k.flash.as_many; tol = k.flash.tol; budget = k.flash.budget }; ends = record { lo = k.ends.lo; hi = k.ends.hi; ordered = k.ends.ordered; width = width-within place by value step.0 step.1 } })
kept-needed place by g more Z value e k =
    let step = and_then_good (feed_of place g value) (λ (zs : List ℕ). Ok (record g { z = Some zs })) more e in
    let is : record g { z = Some step.0 } ≡ more = same_good (record g { z = Some step.0 }) more step.2 in
    let kept = feed-kept place g value step.0 step.1 in
    subst (IsKept by) is (record { flash = record { t = k.flash.t; p = k.flash.p; total = kept.0; differ = k.flash.differ; named = k.flash.named; as_many = same_count step.0 g.names kept.1; tol = k.flash.tol; budget = k.flash.budget }; ends = record { lo = k.ends.lo; hi = k.ends.hi; ordered = k.ends.ordered; width = k.ends.width } })
kept-needed place by g more Names value e k =
    let step = and_then_good (called_of place g value) (λ (ns : List (List ℕ)). Ok (record g { names = Some ns })) more e in
    let is : record g { names = Some step.0 } ≡ more = same_good (record g { names = Some step.0 }) more step.2 in
    let kept = called-kept place g value step.0 step.1 in
    subst (IsKept by) is (record { flash = record { t = k.flash.t; p = k.flash.p; total = k.flash.total; differ = kept.0; named = kept.1; as_many = same_count_back step.0 g.z kept.2; tol = k.flash.tol; budget = k.flash.budget }; ends = record { lo = k.ends.lo; hi = k.ends.hi; ordered = k.ends.ordered; width = k.ends.width } })
kept-needed place by g more Tol value e k =
    let step = and_then_good (number_of place 0 128 1048576 value) (λ (n : ℕ). Ok (record g { tol = Some n })) more e in
    let is : record g { tol = Some step.0 } ≡ more = same_good (record g { tol = Some step.0 }) more step.2 in
    subst (IsKept by) is (record { flash = record { t = k.flash.t; p = k.flash.p; total = k.flash.total; differ = k.flash.differ; named = k.flash.named; as_many = k.flash.as_many; tol = number-within place 0 128 1048576 value step.0 step.1; budget = k.flash.budget }; ends = record { lo = k.ends.lo; hi = k.ends.hi; ordered = k.ends.ordered; width = k.ends.width } })
kept-needed place by g more Budget value e k =
    let step = and_then_good (number_of place 0 1 10000000 value) (λ (n : ℕ). Ok (record g { budget = Some n })) more e in
    let is : record g { budget = Some step.0 } ≡ more = same_good (record g { budget = Some step.0 }) more step.2 in
    subst (IsKept by) is (record { flash = record { t = k.flash.t; p = k.flash.p; total = k.flash.total; differ = k.flash.differ; named = k.flash.named; as_many = k.flash.as_many; tol = k.flash.tol; budget = number-within place 0 1 10000000 value step.0 step.1 }; ends = record { lo = k.ends.lo; hi = k.ends.hi; ordered = k.ends.ordered; width = k.ends.width } })

kept-value : (place : ℕ) (by : By) (g more : Gathered) (key : FlashKey) (value : List ℕ) → with_value place by g key value ≡ Ok more
    → IsKept by g → IsKept by more
unfolding with_value
kept-value place by g more (Needed key) value e k = kept-needed place by g more key value e k
kept-value place by g more Kappa value e k =
    let step = and_then_good (edition_of place value) (λ (edition : Edition). Ok (record g { edition = Some edition })) more e in
    let is : record g { edition = Some step.0 } ≡ more = same_good (record g { edition = Some step.0 }) more step.2 in
    subst (IsKept by) is (record { flash = record { t = k.flash.t; p = k.flash.p; total = k.flash.total; differ = k.flash.differ; named = k.flash.named; as_many = k.flash.as_many; tol = k.flash.tol; budget = k.flash.budget }; ends = record { lo = k.ends.lo; hi = k.ends.hi; ordered = k.ends.ordered; width = k.ends.width } })

kept-key : (place : ℕ) (by : By) (g more : Gathered) (key : Option FlashKey) (value : List ℕ) → with_key place by g key value ≡ Ok more
    → IsKept by g → IsKept by more
kept-key place by g more None value e k = absurd (cc)
kept-key place by g more (Some key) value e k =
    kept-value place by g more key value (unless_good (stands g key) (with_value place by g key value) more (Twice place) e) k

pub kept-word : (command : Command) (place : ℕ) (g more : Gathered) (word : List ℕ) → with_word command place g word ≡ Ok more
    → IsKept (searched_by command) g → IsKept (searched_by command) more
unfolding with_word
kept-word command place g more word e k =
    let key = key_of command (before_first is_equals word) in
    kept-key place (searched_by command) g more key (after_first is_equals word)
    (if_good (nat_lt (position_or_len is_equals word) (length word)) (with_key place (searched_by command) g key (after_first is_equals word)) more (Unknown place) e) k
