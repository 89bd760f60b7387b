-- A line has one spelling: what is read is what is written, and what is written is read.
use Rattle.std.proofs.Common.{◌≡◌, ℕ, suc, ◌+◌, ◌^◌, ◌<◌, ◌≤◌, List, [], ◌∷◌, ◌++◌, length, take, drop, refl, sym, ap, subst, ◌∙◌, Bool, true, false, not, ◌&&◌, if◌then◌else◌, cond, arith, inl, inr, append_assoc, ℤ, pos, negsuc, Option, Some, None, Result, Ok, Err}
use Rattle.std.specs.Result.{result_ok}
use Rattle.std.specs.Prelude.{◌==◌, ◌⊎◌, nat_le, slice_index, unsigned_abs, int_le, ◌≤ℤ◌}
use Rattle.std.specs.List.{list_all}
use Rattle.std.specs.Str.{bytes_eq}
use Rattle.std.specs.Fmt.{decimal, signed_decimal}
use Rattle.std.specs.Str.Parse.{AllDigits}
use Rattle.std.proofs.lemmas.Bool.{and_parts, eqb-true}
use Rattle.std.proofs.lemmas.Bool.Decides.{nat_tests}
use Rattle.std.proofs.lemmas.List.{append-nil, take_at, drop_at, take-append-drop, nil_from_length}
use Rattle.std.proofs.lemmas.Slice.Eq.{bytes_eq-Decides}
use Rattle.std.proofs.lemmas.Fmt.{decimal_is_IsNumeral_wide}
use Rattle.std.proofs.lemmas.Str.Parse.{digit_from_value}
use Rattle.dec_text.specs.Decimals.{whole_of}
use Rattle.dec_text.specs.declared.faults.DecFault.{DecFault}
use Rattle.dec_text.specs.declared.faults.DecFault.TheVariants.{Empty, Digit}
use Rattle.case_types.specs.Ranges.{is_name_byte}
use Rattle.case_words.specs.Names.{name_of}
use Rattle.cert_lines.specs.declared.lines.Range.{Range}
use Rattle.cert_lines.specs.Lines.{Said, ◌>>=◌, is_space, field_end, field_at, number_at, numbers_at, name_at, behind_word, line_at, line_text, name_part, numbers_text, IsIn, is_in, AreIn, IsNamed, Fits}
use Rattle.dec_text.proofs.Exports.{whole_takes, whole_again}

-- ---- options
pub bind_some : {A B : Type 0} (o : Option A) (f : A → Option B) (y : B) → (o >>= f) ≡ Some y → (x : A) × (o ≡ Some x) × (f x ≡ Some y)
bind_some (Some x) f y e = (x, refl, e)
bind_some None f y e = absurd cc

pub guard_some : {A : Type 0} (b : Bool) (x y : A) → cond b (Some x) None ≡ Some y → (b ≡ true) × (x ≡ y)
guard_some true x y e = (refl, cc)
guard_some false x y e = absurd cc

pub some_is : {A : Type 0} (x y : A) → Some x ≡ Some y → x ≡ y
some_is x y e = cc

read_is : {A : Type 0} (r : Result A DecFault) (x : A) → result_ok r ≡ Some x → r ≡ Ok x
read_is (Ok a) x e = ap Ok (some_is a x e)
read_is (Err f) x e = absurd cc

-- ---- fields
abbrev pub NoSpace : List ℕ → Type 0
NoSpace [] = Unit {0}
NoSpace (c ∷ cs) = (is_space c ≡ false) × NoSpace cs

-- a field ends before this
abbrev pub Stops : List ℕ → Type 0
Stops rest = (rest ≡ []) ⊎ (slice_index rest 0 ≡ 32)

-- the text begins with a space and this field
pub record IsFieldOf (text field rest : List ℕ) : Type 0 where
  pub parts : text ≡ 32 ∷ (field ++ rest)
  pub stops : Stops rest
  pub no_space : NoSpace field

end_of : (text : List ℕ) → Stops (drop (field_end text) text) × NoSpace (take (field_end text) text)
end_of [] = (inl refl, tt)
end_of (c ∷ cs) = by_case (end_of cs) (is_space c) refl
  where
    by_case : Stops (drop (field_end cs) cs) × NoSpace (take (field_end cs) cs) → (b : Bool) → is_space c ≡ b
        → Stops (drop (cond (not b) (1 + field_end cs) 0) (c ∷ cs)) × NoSpace (take (cond (not b) (1 + field_end cs) 0) (c ∷ cs))
    by_case k true e = (inr (eqb-true c 32 e), tt)
    by_case k false e =
        let n : 1 + field_end cs ≡ suc (field_end cs) = omega arith in
        rw n (k.0, (e, k.1))

pub field_takes : (text : List ℕ) (x : List ℕ × List ℕ) → field_at text ≡ Some x → IsFieldOf text x.0 x.1
unfolding field_at
field_takes [] x e = absurd cc
field_takes (c ∷ cs) x e =
    let g = guard_some (c == 32) (take (field_end cs) cs, drop (field_end cs) cs) x e in
    let k = end_of cs in
    subst (λ (y : List ℕ × List ℕ). IsFieldOf (c ∷ cs) y.0 y.1) g.1 (record {
      parts = rw (eqb-true c 32 g.0) (ap (λ (t : List ℕ). 32 ∷ t) (sym (take-append-drop (field_end cs) cs)));
      stops = k.0;
      no_space = k.1;
    })

end_at : (field rest : List ℕ) → NoSpace field → Stops rest → field_end (field ++ rest) ≡ length field
end_at [] [] n s = refl
end_at [] (c ∷ cs) n (inl e) = absurd cc
end_at [] (c ∷ cs) n (inr e) = rw e refl
end_at (c ∷ cs) rest n s = rw n.0 (omega (arith, end_at cs rest n.1 s))

pub field_again : (field rest : List ℕ) → NoSpace field → Stops rest → field_at (32 ∷ (field ++ rest)) ≡ Some (field, rest)
unfolding field_at
field_again field rest n s =
    let e = end_at field rest n s in
    rw (e, take_at field rest (length field) refl, drop_at field rest (length field) refl) refl

-- ---- numbers
digit_no_space : (c : ℕ) → 48 ≤ c → is_space c ≡ false
digit_no_space c h = grind (arith, nat_tests)

digits_no_space : (ds : List ℕ) → AllDigits 10 ds → NoSpace ds
digits_no_space [] all = tt
digits_no_space (c ∷ cs) all = (digit_no_space c (digit_from_value c all.0).0, digits_no_space cs all.1)

number_no_space : (z : ℤ) → unsigned_abs z < 2 ^ 126 → NoSpace (signed_decimal z)
number_no_space (pos n) small =
    let wide : 2 ^ 126 ≤ 10 ^ 64 = omega arith in
    digits_no_space (decimal n) (decimal_is_IsNumeral_wide n (omega (arith, small, wide))).0.1
number_no_space (negsuc m) small =
    let wide : 2 ^ 126 ≤ 10 ^ 64 = omega arith in
    (refl, digits_no_space (decimal (suc m)) (decimal_is_IsNumeral_wide (suc m) (omega (arith, small, wide))).0.1)

pub int_le_out : (a b : ℤ) → int_le a b ≡ true → a ≤ℤ b
int_le_out a b e = grind arith

pub int_le_in : (a b : ℤ) → a ≤ℤ b → int_le a b ≡ true
int_le_in a b h = grind arith

in_parts : (r : Range) (z : ℤ) → is_in r z ≡ true → (r.low ≤ℤ z) × (z ≤ℤ r.high)
in_parts r z e =
    let p = and_parts (int_le r.low z) (int_le z r.high) e in
    (int_le_out r.low z p.0, int_le_out z r.high p.1)

in_again : (r : Range) (z : ℤ) → r.low ≤ℤ z → z ≤ℤ r.high → is_in r z ≡ true
in_again r z l h = rw (int_le_in r.low z l, int_le_in z r.high h) refl

-- the text begins with a space and this number, which is in the range
pub record IsNumberOf (r : Range) (text : List ℕ) (z : ℤ) (rest : List ℕ) : Type 0 where
  pub parts : text ≡ 32 ∷ (signed_decimal z ++ rest)
  pub stops : Stops rest
  pub fits : IsIn r z

pub number_takes : (r : Range) (text : List ℕ) (x : ℤ × List ℕ) → number_at r text ≡ Some x → IsNumberOf r text x.0 x.1
unfolding number_at
number_takes r text x e =
    let a = bind_some (field_at text) (λ field. result_ok (whole_of field.0) >>= λ z. if is_in r z then Some (z, field.1) else None) x e in
    let b = bind_some (result_ok (whole_of a.0.0)) (λ z. if is_in r z then Some (z, a.0.1) else None) x a.2 in
    let g = guard_some (is_in r b.0) (b.0, a.0.1) x b.2 in
    let f = field_takes text a.0 a.1 in
    let w = whole_takes a.0.0 b.0 b.1 in
    let i = in_parts r b.0 g.0 in
    subst (λ (y : ℤ × List ℕ). IsNumberOf r text y.0 y.1) g.1 (record {
      parts = f.parts ∙ ap (λ (t : List ℕ). 32 ∷ (t ++ a.0.1)) w.printed_as;
      stops = f.stops;
      fits = record { low = i.0; high = i.1; small = w.small };
    })

pub number_again : (r : Range) (z : ℤ) (rest : List ℕ) → IsIn r z → Stops rest → number_at r (32 ∷ (signed_decimal z ++ rest)) ≡ Some (z, rest)
unfolding number_at
number_again r z rest fits stops =
    rw (field_again (signed_decimal z) rest (number_no_space z fits.small) stops, whole_again z fits.small, in_again r z fits.low fits.high) refl

numbers_stop : (zs : List ℤ) → Stops (numbers_text zs)
numbers_stop [] = inl refl
numbers_stop (z ∷ zs) = inr refl

-- the text is these numbers, each in its range, and then the rest
pub record AreNumbersOf (rs : List Range) (text : List ℕ) (zs : List ℤ) (rest : List ℕ) : Type 0 where
  pub parts : text ≡ numbers_text zs ++ rest
  pub fits : AreIn rs zs

pub numbers_take : (rs : List Range) (text : List ℕ) (x : List ℤ × List ℕ) → numbers_at rs text ≡ Some x → AreNumbersOf rs text x.0 x.1
unfolding numbers_at
numbers_take [] text x e =
    subst (λ (y : List ℤ × List ℕ). AreNumbersOf [] text y.0 y.1) (some_is ([], text) x e) (record { parts = refl; fits = tt })
numbers_take (r ∷ rs) text x e =
    let a = bind_some (number_at r text) (λ first. numbers_at rs first.1 >>= λ others. Some (first.0 ∷ others.0, others.1)) x e in
    let b = bind_some (numbers_at rs a.0.1) (λ others. Some (a.0.0 ∷ others.0, others.1)) x a.2 in
    let n = number_takes r text a.0 a.1 in
    let k = numbers_take rs a.0.1 b.0 b.1 in
    subst (λ (y : List ℤ × List ℕ). AreNumbersOf (r ∷ rs) text y.0 y.1) (some_is (a.0.0 ∷ b.0.0, b.0.1) x b.2) (record {
      parts = n.parts ∙ ap (λ (t : List ℕ). 32 ∷ (signed_decimal a.0.0 ++ t)) k.parts
          ∙ ap (λ (t : List ℕ). 32 ∷ t) (sym (append_assoc (signed_decimal a.0.0) (numbers_text b.0.0) b.0.1));
      fits = (n.fits, k.fits);
    })

pub numbers_again : (rs : List Range) (zs : List ℤ) → AreIn rs zs → numbers_at rs (numbers_text zs) ≡ Some (zs, [])
unfolding numbers_at
numbers_again [] [] fits = refl
numbers_again [] (z ∷ zs) fits = absurd fits
numbers_again (r ∷ rs) [] fits = absurd fits
numbers_again (r ∷ rs) (z ∷ zs) fits =
    rw (number_again r z (numbers_text zs) fits.0 (numbers_stop zs), numbers_again rs zs fits.1) refl

-- ---- names
name_byte_no_space : (c : ℕ) → is_name_byte c ≡ true → is_space c ≡ false
name_byte_no_space c e = by_case (is_space c) refl
  where
    by_case : (b : Bool) → is_space c ≡ b → is_space c ≡ false
    by_case false h = h
    by_case true h =
        let wrong : is_name_byte 32 ≡ true = subst (λ x. is_name_byte x ≡ true) (eqb-true c 32 h) e in
        absurd cc

name_bytes_no_space : (cs : List ℕ) → list_all is_name_byte cs ≡ true → NoSpace cs
name_bytes_no_space [] e = tt
name_bytes_no_space (c ∷ cs) e =
    let p = and_parts (is_name_byte c) (list_all is_name_byte cs) e in
    (name_byte_no_space c p.0, name_bytes_no_space cs p.1)

record IsSpelled (text name : List ℕ) : Type 0 where
  same : text ≡ name
  bytes : list_all is_name_byte text ≡ true

spelled : (text name : List ℕ) → name_of text ≡ Ok name → IsSpelled text name
unfolding name_of
spelled text name e = by_tests (length text == 0) (nat_le (length text) 16) (list_all is_name_byte text) refl e
  where
    by_tests : (a b c : Bool) → list_all is_name_byte text ≡ c → (if a then Err Empty else (if b && c then Ok text else Err Digit)) ≡ Ok name → IsSpelled text name
    by_tests true b c h e = absurd cc
    by_tests false false c h e = absurd cc
    by_tests false true false h e = absurd cc
    by_tests false true true h e = record { same = cc; bytes = h }

-- the text is the name, where one is wanted, and then the rest
pub record IsNameOf (named : Bool) (text name rest : List ℕ) : Type 0 where
  pub parts : text ≡ name_part named name ++ rest
  pub fits : IsNamed named name

pub name_takes : (named : Bool) (text : List ℕ) (x : List ℕ × List ℕ) → name_at named text ≡ Some x → IsNameOf named text x.0 x.1
unfolding name_at
name_takes false text x e =
    subst (λ (y : List ℕ × List ℕ). IsNameOf false text y.0 y.1) (some_is ([], text) x e) (record { parts = refl; fits = refl })
name_takes true text x e =
    let a = bind_some (field_at text) (λ field. result_ok (name_of field.0) >>= λ name. Some (name, field.1)) x e in
    let b = bind_some (result_ok (name_of a.0.0)) (λ name. Some (name, a.0.1)) x a.2 in
    let f = field_takes text a.0 a.1 in
    let ok : name_of a.0.0 ≡ Ok b.0 = read_is (name_of a.0.0) b.0 b.1 in
    let s = spelled a.0.0 b.0 ok in
    subst (λ (y : List ℕ × List ℕ). IsNameOf true text y.0 y.1) (some_is (b.0, a.0.1) x b.2) (record {
      parts = f.parts ∙ ap (λ (t : List ℕ). 32 ∷ (t ++ a.0.1)) s.same;
      fits = subst (λ t. name_of t ≡ Ok b.0) s.same ok;
    })

pub name_again : (named : Bool) (name rest : List ℕ) → IsNamed named name → Stops rest → name_at named (name_part named name ++ rest) ≡ Some (name, rest)
unfolding name_at
name_again false name rest fits stops = ap (λ n. Some (n, rest)) (sym fits)
name_again true name rest fits stops =
    let s = spelled name name fits in
    rw (field_again name rest (name_bytes_no_space name s.bytes) stops, fits) refl

-- ---- the word
pub word_takes : (word text rest : List ℕ) → behind_word word text ≡ Some rest → text ≡ word ++ rest
unfolding behind_word
word_takes word text rest e =
    let g = guard_some (bytes_eq word (take (length word) text)) (drop (length word) text) rest e in
    let same : take (length word) text ≡ word = sym ((bytes_eq-Decides word (take (length word) text)).0 g.0) in
    sym (take-append-drop (length word) text) ∙ ap (λ (t : List ℕ). t ++ drop (length word) text) same ∙ ap (λ (t : List ℕ). word ++ t) g.1

pub word_again : (word rest : List ℕ) → behind_word word (word ++ rest) ≡ Some rest
unfolding behind_word
word_again word rest =
    rw (take_at word rest (length word) refl, drop_at word rest (length word) refl, (bytes_eq-Decides word word).1 refl) refl

-- ---- the line
-- the line is the text of what it says, which fits
pub record IsLineOf (word : List ℕ) (named : Bool) (rs : List Range) (text : List ℕ) (said : Said) : Type 0 where
  pub written : text ≡ line_text word named said
  pub fits : Fits named rs said

pub line_takes : (word : List ℕ) (named : Bool) (rs : List Range) (text : List ℕ) (said : Said) → line_at word named rs text ≡ Some said → IsLineOf word named rs text said
unfolding line_at
line_takes word named rs text said e =
    let a = bind_some (behind_word word text) (λ rest. name_at named rest >>= λ name. numbers_at rs name.1 >>= λ numbers. if length numbers.1 == 0 then Some (record { name = name.0; numbers = numbers.0 }) else None) said e in
    let b = bind_some (name_at named a.0) (λ name. numbers_at rs name.1 >>= λ numbers. if length numbers.1 == 0 then Some (record { name = name.0; numbers = numbers.0 }) else None) said a.2 in
    let c = bind_some (numbers_at rs b.0.1) (λ numbers. if length numbers.1 == 0 then Some (record { name = b.0.0; numbers = numbers.0 }) else None) said b.2 in
    let made : Said = record { name = b.0.0; numbers = c.0.0 } in
    let g = guard_some (length c.0.1 == 0) made said c.2 in
    let n = name_takes named a.0 b.0 b.1 in
    let k = numbers_take rs b.0.1 c.0 c.1 in
    let nothing : c.0.1 ≡ [] = nil_from_length c.0.1 (eqb-true (length c.0.1) 0 g.0) in
    subst (λ (y : Said). IsLineOf word named rs text y) g.1 (record {
      written = word_takes word text a.0 a.1
          ∙ ap (λ (t : List ℕ). word ++ t) (n.parts ∙ ap (λ (t : List ℕ). name_part named b.0.0 ++ t) (k.parts ∙ ap (λ (t : List ℕ). numbers_text c.0.0 ++ t) nothing ∙ append-nil (numbers_text c.0.0)));
      fits = record { name = n.fits; numbers = k.fits };
    })

pub line_again : (word : List ℕ) (named : Bool) (rs : List Range) (said : Said) → Fits named rs said → line_at word named rs (line_text word named said) ≡ Some said
unfolding line_at
line_again word named rs said fits =
    rw (
      word_again word (name_part named said.name ++ numbers_text said.numbers),
      name_again named said.name (numbers_text said.numbers) fits.name (numbers_stop said.numbers),
      numbers_again rs said.numbers fits.numbers,
    )
    refl
