-- One word more, test by test.
use Rattle.std.proofs.Common.{◌≡◌, ℕ, ◌+◌, ◌<◌, ◌≤◌, List, [], length, get_or, drop, Bool, true, false, refl, ap, sym, ◌∙◌}
use Rattle.std.specs.Prelude.{Option, Some, None, Result, Ok, Err, nat_lt}
use Rattle.std.specs.List.{position_or_len, before_first, after_first}
use Rattle.std.proofs.lemmas.List.{drop_more, drop_all}
use Rattle.case_types.specs.declared.cases.Edition.{Edition}
use Rattle.case_words.specs.declared.boundaries.By.{By}
use Rattle.case_words.specs.declared.boundaries.By.TheVariants.{Pressure, Temperature}
use Rattle.case_words.specs.declared.boundaries.Side.{Side}
use Rattle.case_words.specs.declared.commands.Command.{Command}
use Rattle.case_words.specs.declared.commands.Command.TheVariants.{Tp, Cert, Check, Edge}
use Rattle.case_words.specs.declared.keys.FlashKey.{FlashKey}
use Rattle.case_words.specs.declared.keys.FlashKey.TheVariants.{Needed, Kappa}
use Rattle.case_words.specs.declared.keys.Key.{Key}
use Rattle.case_words.specs.declared.keys.Key.TheVariants.{T, P, Lo, Hi, Width, Z, Names, Tol, Budget}
use Rattle.case_words.specs.declared.faults.WordFault.{WordFault}
use Rattle.case_words.specs.declared.faults.WordFault.TheVariants.{Unknown, Twice}
use Rattle.case_words.specs.Answers.{◌>>=◌, when, Answers}
use Rattle.case_words.specs.Commands.{searched_by}
use Rattle.case_words.specs.Keys.{key_of}
use Rattle.case_words.specs.Counts.{is_as_many}
use Rattle.case_words.specs.Items.{number_of, quantity_of, width_of, edition_of}
use Rattle.case_words.specs.Jobs.{Asked, EdgeAsked, Gathered, PlainTp, PlainCert, PlainCheck, PlainEdge, nothing, stands, is_equals, lo_of, hi_of, feed_of, called_of, with_needed, with_value, with_word, with_words, asked_of, edge_of, job_from, job_with}

-- ---- the value of a key that must stand
pub value-t : (place : ℕ) (by : By) (g : Gathered) (value : List ℕ) (r : Result ℕ WordFault) → quantity_of place Temperature value ≡ r
    → with_needed place by g T value ≡ (r >>= (λ n. Ok (record g { t = Some n })))
unfolding with_needed
value-t place by g value r e = rw e refl

pub value-p : (place : ℕ) (by : By) (g : Gathered) (value : List ℕ) (r : Result ℕ WordFault) → quantity_of place Pressure value ≡ r
    → with_needed place by g P value ≡ (r >>= (λ n. Ok (record g { p = Some n })))
unfolding with_needed
value-p place by g value r e = rw e refl

pub value-lo : (place : ℕ) (by : By) (g : Gathered) (value : List ℕ) (r : Result ℕ WordFault) → lo_of place by g value ≡ r
    → with_needed place by g Lo value ≡ (r >>= (λ n. Ok (record g { lo = Some n })))
unfolding with_needed
value-lo place by g value r e = rw e refl

pub value-hi : (place : ℕ) (by : By) (g : Gathered) (value : List ℕ) (r : Result ℕ WordFault) → hi_of place by g value ≡ r
    → with_needed place by g Hi value ≡ (r >>= (λ n. Ok (record g { hi = Some n })))
unfolding with_needed
value-hi place by g value r e = rw e refl

pub value-width : (place : ℕ) (by : By) (g : Gathered) (value : List ℕ) (r : Result ℕ WordFault) → width_of place by value ≡ r
    → with_needed place by g Width value ≡ (r >>= (λ n. Ok (record g { width = Some n })))
unfolding with_needed
value-width place by g value r e = rw e refl

pub value-z : (place : ℕ) (by : By) (g : Gathered) (value : List ℕ) (r : Result (List ℕ) WordFault) → feed_of place g value ≡ r
    → with_needed place by g Z value ≡ (r >>= (λ n. Ok (record g { z = Some n })))
unfolding with_needed
value-z place by g value r e = rw e refl

pub value-names : (place : ℕ) (by : By) (g : Gathered) (value : List ℕ) (r : Result (List (List ℕ)) WordFault) → called_of place g value ≡ r
    → with_needed place by g Names value ≡ (r >>= (λ n. Ok (record g { names = Some n })))
unfolding with_needed
value-names place by g value r e = rw e refl

pub value-tol : (place : ℕ) (by : By) (g : Gathered) (value : List ℕ) (r : Result ℕ WordFault) → number_of place 0 128 1048576 value ≡ r
    → with_needed place by g Tol value ≡ (r >>= (λ n. Ok (record g { tol = Some n })))
unfolding with_needed
value-tol place by g value r e = rw e refl

pub value-budget : (place : ℕ) (by : By) (g : Gathered) (value : List ℕ) (r : Result ℕ WordFault) → number_of place 0 1 10000000 value ≡ r
    → with_needed place by g Budget value ≡ (r >>= (λ n. Ok (record g { budget = Some n })))
unfolding with_needed
value-budget place by g value r e = rw e refl

-- ---- an end or a list that is read, and then a test
pub tested-fault : {A B F : Type 0} (r : Result A F) (f : A → Result B F) (fault : F) → r ≡ Err fault → (r >>= f) ≡ Err fault
tested-fault r f fault e = rw e refl

pub tested : {A F : Type 0} (r : Result A F) (test : A → Bool) (a : A) (fault : F) (b : Bool) → r ≡ Ok a → test a ≡ b
    → (r >>= (λ x. when (test x) x fault)) ≡ when b a fault
tested r test a fault b e is = rw (e, is) refl

-- ---- the value of any key
pub value-needed : (place : ℕ) (by : By) (g : Gathered) (key : Key) (value : List ℕ)
    → with_value place by g (Needed key) value ≡ with_needed place by g key value
unfolding with_value
value-needed place by g key value = refl

pub value-kappa : (place : ℕ) (by : By) (g : Gathered) (value : List ℕ) (r : Result Edition WordFault) → edition_of place value ≡ r
    → with_value place by g Kappa value ≡ (r >>= (λ edition. Ok (record g { edition = Some edition })))
unfolding with_value
value-kappa place by g value r e = rw e refl

-- ---- the word
pub word-without_equals : (command : Command) (place : ℕ) (g : Gathered) (word : List ℕ)
    → nat_lt (position_or_len is_equals word) (length word) ≡ false → with_word command place g word ≡ Err (Unknown place)
unfolding with_word
word-without_equals command place g word e = rw e refl

pub word-unknown : (command : Command) (place : ℕ) (g : Gathered) (word : List ℕ)
    → nat_lt (position_or_len is_equals word) (length word) ≡ true → key_of command (before_first is_equals word) ≡ None
    → with_word command place g word ≡ Err (Unknown place)
unfolding with_word
word-unknown command place g word e none = rw (e, none) refl

pub word-twice : (command : Command) (place : ℕ) (g : Gathered) (word : List ℕ) (key : FlashKey)
    → nat_lt (position_or_len is_equals word) (length word) ≡ true → key_of command (before_first is_equals word) ≡ Some key
    → stands g key ≡ true → with_word command place g word ≡ Err (Twice place)
unfolding with_word
word-twice command place g word key e is there = rw (e, is, there) refl

pub word-value : (command : Command) (place : ℕ) (g : Gathered) (word : List ℕ) (key : FlashKey)
    → nat_lt (position_or_len is_equals word) (length word) ≡ true → key_of command (before_first is_equals word) ≡ Some key
    → stands g key ≡ false → with_word command place g word ≡ with_value place (searched_by command) g key (after_first is_equals word)
unfolding with_word
word-value command place g word key e is new = rw (e, is, new) refl

-- ---- the words
pub words-more : (command : Command) (place : ℕ) (g more : Gathered) (words : List (List ℕ)) (i : ℕ) → i < length words
    → with_word command place g (get_or words i []) ≡ Ok more
    → with_words command place g (drop i words) ≡ with_words command (place + 1) more (drop (i + 1) words)
unfolding with_words
words-more command place g more words i inside e = rw (drop_more words i [] inside, e) refl

pub words-stop : (command : Command) (place : ℕ) (g : Gathered) (words : List (List ℕ)) (i : ℕ) (fault : WordFault) → i < length words
    → with_word command place g (get_or words i []) ≡ Err fault → with_words command place g (drop i words) ≡ Err fault
unfolding with_words
words-stop command place g words i fault inside e = rw (drop_more words i [] inside, e) refl

pub words-end : (command : Command) (place : ℕ) (g : Gathered) (words : List (List ℕ)) (i : ℕ) → length words ≤ i
    → with_words command place g (drop i words) ≡ Ok g
unfolding with_words
words-end command place g words i end = rw (drop_all i words end) refl

-- ---- the job of a command
pub job-fault : (command : Command) (words : List (List ℕ)) (fault : WordFault) → with_words command 2 nothing words ≡ Err fault
    → job_with command words ≡ Err fault
unfolding job_with
job-fault command words fault e = rw e refl

pub job-whole : (command : Command) (words : List (List ℕ)) (g : Gathered) → with_words command 2 nothing words ≡ Ok g
    → job_with command words ≡ job_from command g
unfolding job_with
job-whole command words g e = rw e refl

pub job-tp : (g : Gathered) (r : Result Asked WordFault) → asked_of g ≡ r → job_from Tp g ≡ (r >>= (λ asked. Ok (PlainTp asked)))
unfolding job_from
job-tp g r e = rw e refl

pub job-cert : (g : Gathered) (r : Result Asked WordFault) → asked_of g ≡ r → job_from Cert g ≡ (r >>= (λ asked. Ok (PlainCert asked)))
unfolding job_from
job-cert g r e = rw e refl

pub job-check : (g : Gathered) → job_from Check g ≡ Ok PlainCheck
unfolding job_from
job-check g = refl

pub job-edge : (by : By) (side : Side) (g : Gathered) (r : Result EdgeAsked WordFault) → edge_of by side g ≡ r
    → job_from (Edge by side) g ≡ (r >>= (λ asked. Ok (PlainEdge asked)))
unfolding job_from
job-edge by side g r e = rw e refl

-- ---- answers
pub answers-fault : {A B F : Type 0} (view : A → B) (wanted : Result B F) (r : Result A F) (fault : F) → r ≡ Err fault → wanted ≡ Err fault
    → Answers view wanted r
answers-fault view wanted r fault e w = rw e w

pub answers-same : {A B F : Type 0} (view : A → B) (wanted found : Result B F) (r : Result A F) → wanted ≡ found → Answers view found r
    → Answers view wanted r
answers-same view wanted found r e a = rw e a

-- ---- counts that were taken
pub same_counted : (n : ℕ) (others : Option ℕ) (m : ℕ) (found : Option ℕ) (r : Bool) → m ≡ n → found ≡ others → r ≡ is_as_many m found
    → is_as_many n others ≡ r
same_counted n others m found r is are tested = sym (tested ∙ ap (λ (k : ℕ). is_as_many k found) is ∙ ap (is_as_many n) are)
