-- Bytes taken one after the other, and pieces of a stream.
use Rattle.std.proofs.Common.{◌≡◌, ℕ, zero, suc, ◌+◌, ◌-◌, ◌<◌, ◌≤◌, List, [], ◌∷◌, ◌++◌, length, get_or, take, drop, refl, sym, ap, subst, ◌∙◌, arith, Option, Some, None, inl, inr, ℤ}
use Rattle.std.proofs.lemmas.List.{append-nil, append_assoc, drop_more, drop_all, take_at, length-append}
use Rattle.std.proofs.lemmas.Bool.{cases_lt}
use Rattle.io_edge.specs.Bytes.{ahead, IsSpent}
use Rattle.io_edge.specs.Reading.{TakesAtMost, TakesExactly}
use Rattle.io_edge.proofs.Told.{ahead-step}
use Rattle.cert_lines.specs.Heads.{blank}
use Rattle.cert_lines.specs.declared.faults.CertFault.TheVariants.{TooLong}
use Rattle.cert_format.specs.declared.verdicts.Verdict.{Verdict}
use Rattle.cert_format.specs.declared.verdicts.Verdict.TheVariants.{Accepted, BadParams, BadBalance, BadEnergy, BadGap, BadLeaf, Refused, ReadFault, Memory}
use Rattle.cert_check.specs.Checking.{State, InHead, Gives, Takes}
use Rattle.cert_check.specs.Judging.{IsVerdict}
use Rattle.cert_check.proofs.OfTexts.{not_too_long, on_text, past_on_text}
use Rattle.cert_check.specs.Streams.{limit, past_limit, IsStreamVerdict, IsTextVerdict, Judges}

-- ---- one byte of a list
-- what is left to judge at this byte is what was at the first
abbrev pub SoFar : State → State → List ℕ → ℕ → Type 0
SoFar start s bytes i = (rest : List ℕ) (v : Verdict) → Gives s (drop i bytes ++ rest) v → Gives start (bytes ++ rest) v

pub so_far_more : (start s after : State) (bytes : List ℕ) (i d : ℕ) → i < length bytes → Takes s (get_or bytes i d ∷ []) after None → SoFar start s bytes i → SoFar start after bytes (i + 1)
so_far_more start s after bytes i d inside step far rest v g =
    far rest v (rw (drop_more bytes i d inside) (step (drop (i + 1) bytes ++ rest) v g))

pub so_far_out : (start s after : State) (u : Verdict) (bytes : List ℕ) (i d : ℕ) → i < length bytes → Takes s (get_or bytes i d ∷ []) after (Some u) → SoFar start s bytes i
    → Takes start bytes after (Some u)
so_far_out start s after u bytes i d inside step far =
    ((λ rest. far rest u (rw (drop_more bytes i d inside) (step.0 (drop (i + 1) bytes ++ rest)))), step.1)

pub so_far_all : (start s : State) (bytes : List ℕ) (i : ℕ) → length bytes ≤ i → SoFar start s bytes i → Takes start bytes s None
so_far_all start s bytes i end far rest v g = far rest v (rw (drop_all i bytes end) g)

-- ---- verdicts
settled_no_yes : (u gap : ℤ) → past_limit (Accepted u gap) ≡ Accepted u gap → ⊥
settled_no_yes u gap e = cc

pub no_yes : (v : Verdict) (u gap : ℤ) → past_limit v ≡ v → v ≡ Accepted u gap → ⊥
no_yes v u gap settled e = settled_no_yes u gap (subst (λ (x : Verdict). past_limit x ≡ x) e settled)

-- ---- the stream so far
-- these bytes were taken, and what is left to judge is the whole behind them
pub record IsSoFar (taken : ℕ) (left left' : Option (List ℕ)) (s : State) : Type 0 where
  pub seen : List ℕ
  pub next : left ≡ ahead seen left'
  pub counted : length seen ≡ taken
  pub gives : (bytes : List ℕ) (v : Verdict) → Gives s bytes v → IsVerdict (seen ++ bytes) v

pub begins : (left : Option (List ℕ)) (s : State) → s ≡ InHead blank [] → IsSoFar 0 left left s
begins None s e = record { seen = []; next = refl; counted = refl; gives = λ bytes v g. subst (λ (x : State). Gives x bytes v) e g }
begins (Some rest) s e = record { seen = []; next = refl; counted = refl; gives = λ bytes v g. subst (λ (x : State). Gives x bytes v) e g }

pub goes_on : (taken n : ℕ) (left left' after : Option (List ℕ)) (s t : State) (piece : List ℕ) → IsSoFar taken left left' s → left' ≡ ahead piece after
    → length piece ≡ n → Takes s piece t None → IsSoFar (taken + n) left after t
goes_on taken n left left' after s t piece far next count step = record {
  seen = far.seen ++ piece;
  next = ahead-step far.seen piece left left' after far.next next;
  counted = omega (arith, length-append far.seen piece, far.counted, count);
  gives = λ bytes v g. subst (λ (x : List ℕ). IsVerdict x v) (sym (append_assoc far.seen piece bytes)) (far.gives (piece ++ bytes) v (step bytes v g));
}

-- what is told splits as it was taken
record Splits (bytes seen : List ℕ) (left : Option (List ℕ)) : Type 0 where
  rest : List ℕ
  left_is : left ≡ Some rest
  parts : bytes ≡ seen ++ rest

some_is : (x y : List ℕ) → Some x ≡ Some y → x ≡ y
some_is x y e = cc

splits : (bytes seen : List ℕ) (left left' : Option (List ℕ)) → left ≡ ahead seen left' → left ≡ Some bytes → Splits bytes seen left'
splits bytes seen left None next told = absurd cc
splits bytes seen left (Some rest) next told =
    let e : Some bytes ≡ Some (seen ++ rest) = sym told ∙ next in
    record { rest = rest; left_is = refl; parts = some_is bytes (seen ++ rest) e }

-- the first bytes of two lists, of which the first is no longer than that
take_past : (limit : ℕ) (seen rest : List ℕ) → length seen ≤ limit → take limit (seen ++ rest) ≡ seen ++ take (limit - length seen) rest
take_past limit [] rest short =
    let same : limit - 0 ≡ limit = omega arith in
    rw same refl
take_past zero (x ∷ seen) rest short = absurd (omega arith)
take_past (suc limit) (x ∷ seen) rest short =
    let less : suc limit - suc (length seen) ≡ limit - length seen = omega arith in
    rw less (ap (λ (t : List ℕ). x ∷ t) (take_past limit seen rest (omega arith)))

-- a verdict that the bytes behind it don't change
settled : (v : Verdict) (seen rest : List ℕ) → length seen ≤ limit → ((bytes : List ℕ) → IsVerdict (seen ++ bytes) v) → past_limit v ≡ v → IsStreamVerdict (seen ++ rest) v
settled v seen rest short gives same = elim (cases_lt limit (length (seen ++ rest))) [
  | inl long ↦ inr (record {
    long = long;
    within = v;
    is_within = subst (λ (x : List ℕ). IsVerdict x v) (sym (take_past limit seen rest short)) (gives (take (limit - length seen) rest));
    is = sym same;
  })
  | inr whole ↦ inl (whole, gives rest)
]

pub found : (taken : ℕ) (left left' after : Option (List ℕ)) (s t : State) (v : Verdict) (piece : List ℕ) → IsSoFar taken left left' s → left' ≡ ahead piece after
    → taken + length piece ≤ limit → Takes s piece t (Some v) → (bytes : List ℕ) → left ≡ Some bytes → IsStreamVerdict bytes v
found taken left left' after s t v piece far next short step bytes told =
    let seen : List ℕ = far.seen ++ piece in
    let whole = ahead-step far.seen piece left left' after far.next next in
    let k = splits bytes seen left after whole told in
    let gives : (rest : List ℕ) → IsVerdict (seen ++ rest) v =
    λ rest. subst (λ (x : List ℕ). IsVerdict x v) (sym (append_assoc far.seen piece rest)) (far.gives (piece ++ rest) v (step.0 rest)) in
    subst (λ (x : List ℕ). IsStreamVerdict x v) (sym k.parts) (settled v seen k.rest (omega (arith, length-append far.seen piece, far.counted, short)) gives step.1)

all_seen : (left left' : Option (List ℕ)) (seen bytes : List ℕ) → left ≡ ahead seen left' → IsSpent left' → left ≡ Some bytes → bytes ≡ seen
all_seen left left' seen bytes next spent told =
    let k = splits bytes seen left left' next told in
    let none : k.rest ≡ [] = rw k.left_is at spent in
    k.parts ∙ ap (λ (t : List ℕ). seen ++ t) none ∙ append-nil seen

-- the verdict on what was seen
ended : (taken : ℕ) (left left' : Option (List ℕ)) (s : State) (v : Verdict) (far : IsSoFar taken left left' s) → Gives s [] v → IsVerdict far.seen v
ended taken left left' s v far g = subst (λ (x : List ℕ). IsVerdict x v) (append-nil far.seen) (far.gives [] v g)

pub ends : (taken : ℕ) (left left' : Option (List ℕ)) (s : State) (v : Verdict) → IsSoFar taken left left' s → IsSpent left' → taken ≤ limit → Gives s [] v
    → (bytes : List ℕ) → left ≡ Some bytes → IsStreamVerdict bytes v
ends taken left left' s v far spent short g bytes told =
    let whole = all_seen left left' far.seen bytes far.next spent told in
    subst (λ (x : List ℕ). IsStreamVerdict x v) (sym whole) (inl (omega (arith, far.counted, short), ended taken left left' s v far g))

more_than : (most : ℕ) (bytes seen piece rest : List ℕ) → bytes ≡ seen ++ (piece ++ rest) → length seen ≡ most → 0 < length piece → most < length bytes
more_than most bytes seen piece rest parts full some = rw (parts, length-append, length-append) (omega (arith, full, some))

first_of : (most : ℕ) (bytes seen rest : List ℕ) → bytes ≡ seen ++ rest → length seen ≡ most → take most bytes ≡ seen
first_of most bytes seen rest parts full = rw parts (take_at seen rest most full)

pub past : (taken : ℕ) (left left' after : Option (List ℕ)) (s : State) (v : Verdict) (piece : List ℕ) → IsSoFar taken left left' s → left' ≡ ahead piece after
    → 0 < length piece → taken ≡ limit → Gives s [] v → (bytes : List ℕ) → left ≡ Some bytes → IsStreamVerdict bytes (past_limit v)
past taken left left' after s v piece far next some full g bytes told =
    let whole = ahead-step far.seen piece left left' after far.next next in
    let k = splits bytes (far.seen ++ piece) left after whole told in
    let parts : bytes ≡ far.seen ++ (piece ++ k.rest) = k.parts ∙ append_assoc far.seen piece k.rest in
    let long : limit < length bytes = more_than limit bytes far.seen piece k.rest parts (far.counted ∙ full) some in
    let first : take limit bytes ≡ far.seen = first_of limit bytes far.seen (piece ++ k.rest) parts (far.counted ∙ full) in
    inr (record {
      long = long;
      within = v;
      is_within = subst (λ (x : List ℕ). IsVerdict x v) (sym first) (ended taken left left' s v far g);
      is = refl;
    })

-- ---- how much was taken
pub takes : (most taken : ℕ) (left left' : Option (List ℕ)) (s : State) → IsSoFar taken left left' s → taken ≤ most → TakesAtMost most left left'
takes most taken left left' s far short = record { bytes = far.seen; short = omega (arith, far.counted, short); taken = far.next }

pub takes_more : (most taken : ℕ) (left left' after : Option (List ℕ)) (s : State) (piece : List ℕ) → IsSoFar taken left left' s → left' ≡ ahead piece after → taken + length piece ≤ most
    → TakesAtMost most left after
takes_more most taken left left' after s piece far next short = record {
  bytes = far.seen ++ piece;
  short = omega (arith, length-append far.seen piece, far.counted, short);
  taken = ahead-step far.seen piece left left' after far.next next;
}

pub takes_exactly : (count taken : ℕ) (left left' after : Option (List ℕ)) (s : State) (piece : List ℕ) → IsSoFar taken left left' s → left' ≡ ahead piece after → taken + length piece ≡ count
    → TakesExactly count left after
takes_exactly count taken left left' after s piece far next exact = record {
  bytes = far.seen ++ piece;
  counted = omega (arith, length-append far.seen piece, far.counted, exact);
  taken = ahead-step far.seen piece left left' after far.next next;
}

-- ---- a whole text
pub whole_text : (s after : State) (text : List ℕ) (v : Verdict) → s ≡ InHead blank [] → Takes s text after (Some v) → IsVerdict text v
whole_text s after text v e step =
    subst (λ (x : List ℕ). IsVerdict x v) (append-nil text) (subst (λ (x : State). Gives x (text ++ []) v) e (step.0 []))

-- all that a source told was read
pub all_read : (left left' : Option (List ℕ)) (text : List ℕ) (v : Verdict) → length text ≤ limit → left ≡ ahead text left' → IsSpent left' → IsVerdict text v
    → (bytes : List ℕ) → left ≡ Some bytes → IsTextVerdict bytes v
all_read left left' text v short next spent is bytes told =
    subst (λ (x : List ℕ). IsTextVerdict x v) (sym (all_seen left left' text bytes next spent told)) (inl (short, is))

longer_than : (most : ℕ) (bytes seen rest : List ℕ) → bytes ≡ seen ++ rest → length seen ≡ most + 1 → most < length bytes
longer_than most bytes seen rest parts count = rw (parts, length-append) (omega (arith, count))

-- one byte more than the limit was read
pub too_long : (left left' : Option (List ℕ)) (seen : List ℕ) → length seen ≡ limit + 1 → left ≡ ahead seen left'
    → (bytes : List ℕ) → left ≡ Some bytes → IsTextVerdict bytes (Refused TooLong)
too_long left left' seen count next bytes told =
    let k = splits bytes seen left left' next told in
    inr (longer_than limit bytes seen k.rest k.parts count, refl)

-- ---- verdicts on what was seen alone
pub found_whole : (taken : ℕ) (left left' : Option (List ℕ)) (s t : State) (v : Verdict) (piece : List ℕ) → IsSoFar taken left left' s → Takes s piece t (Some v) → (seen : List ℕ) × IsVerdict seen v
found_whole taken left left' s t v piece far step = (far.seen ++ (piece ++ []), far.gives (piece ++ []) v (step.0 []))

pub ends_whole : (taken : ℕ) (left left' : Option (List ℕ)) (s : State) (v : Verdict) → IsSoFar taken left left' s → Gives s [] v → (seen : List ℕ) × IsVerdict seen v
ends_whole taken left left' s v far g = (far.seen ++ [], far.gives [] v g)

-- past the limit nothing is accepted
pub past_no_yes : (v : Verdict) (u gap : ℤ) → past_limit v ≡ Accepted u gap → ⊥
past_no_yes (Accepted w low) u gap e = cc
past_no_yes (Refused f) u gap e = cc
past_no_yes BadParams u gap e = cc
past_no_yes (BadBalance i) u gap e = cc
past_no_yes BadEnergy u gap e = cc
past_no_yes BadGap u gap e = cc
past_no_yes (BadLeaf i) u gap e = cc
past_no_yes ReadFault u gap e = cc
past_no_yes Memory u gap e = cc

one_more : (n m : ℕ) → n ≤ m → n ≤ m + 1
one_more n m h = omega (arith, h)

-- ---- what the answers of the stream say
pub judges_found : (taken faults faults' : ℕ) (left left' after : Option (List ℕ)) (s t : State) (v : Verdict) (piece : List ℕ) → IsSoFar taken left left' s → left' ≡ ahead piece after
    → taken + length piece ≤ limit → Takes s piece t (Some v) → faults' ≡ faults → Judges IsStreamVerdict left after faults faults' v
judges_found taken faults faults' left left' after s t v piece far next short step same =
    let whole = found_whole taken left left' s t v piece far step in
    record {
      on_text = on_text whole.0 v whole.1;
      told = found taken left left' after s t v piece far next short step;
      ended = λ u gap e. absurd (no_yes v u gap step.1 e);
      most = takes_more (limit + 1) taken left left' after s piece far next (one_more (taken + length piece) limit short);
      long = λ e. absurd (not_too_long whole.0 v whole.1 e);
      no_fault = same;
    }

pub judges_end : (taken faults faults' : ℕ) (left left' after : Option (List ℕ)) (s : State) (v : Verdict) → IsSoFar taken left left' s → IsSpent left' → after ≡ left'
    → taken ≤ limit → Gives s [] v → faults' ≡ faults → Judges IsStreamVerdict left after faults faults' v
judges_end taken faults faults' left left' after s v far spent stays short g same =
    let whole = ends_whole taken left left' s v far g in
    rw stays (record {
      on_text = on_text whole.0 v whole.1;
      told = ends taken left left' s v far spent short g;
      ended = λ u gap e. spent;
      most = takes (limit + 1) taken left left' s far (one_more taken limit short);
      long = λ e. absurd (not_too_long whole.0 v whole.1 e);
      no_fault = same;
    })

exactly : (taken most : ℕ) (piece : List ℕ) → taken ≡ most → length piece ≡ 1 → taken + length piece ≡ most + 1
exactly taken most piece full one = omega (arith, full, one)

same_most : (taken most : ℕ) (piece : List ℕ) → taken ≡ most → length piece ≡ 1 → taken + length piece ≤ most + 1
same_most taken most piece full one = omega (arith, full, one)

pub judges_past : (taken faults faults' : ℕ) (left left' after : Option (List ℕ)) (s : State) (v : Verdict) (piece : List ℕ) → IsSoFar taken left left' s → left' ≡ ahead piece after
    → taken ≡ limit → length piece ≡ 1 → Gives s [] v → faults' ≡ faults → Judges IsStreamVerdict left after faults faults' (past_limit v)
judges_past taken faults faults' left left' after s v piece far next full one g same = record {
  on_text = (let whole = ends_whole taken left left' s v far g in past_on_text whole.0 v whole.1);
  told = past taken left left' after s v piece far next (omega (arith, one)) full g;
  ended = λ u gap e. absurd (past_no_yes v u gap e);
  most = takes_more (limit + 1) taken left left' after s piece far next (same_most taken limit piece full one);
  long = λ e. takes_exactly (limit + 1) taken left left' after s piece far next (exactly taken limit piece full one);
  no_fault = same;
}

pub judges_text : (left left' : Option (List ℕ)) (text : List ℕ) (faults faults' : ℕ) (v : Verdict) → length text ≤ limit → left ≡ ahead text left' → IsSpent left' → IsVerdict text v → faults' ≡ faults
    → Judges IsTextVerdict left left' faults faults' v
judges_text left left' text faults faults' v short next spent is same = record {
  on_text = on_text text v is;
  told = all_read left left' text v short next spent is;
  ended = λ u gap e. spent;
  most = record { bytes = text; short = one_more (length text) limit short; taken = next };
  long = λ e. absurd (not_too_long text v is e);
  no_fault = same;
}

pub judges_too_long : (left left' : Option (List ℕ)) (faults faults' : ℕ) → TakesExactly (limit + 1) left left' → faults' ≡ faults → Judges IsTextVerdict left left' faults faults' (Refused TooLong)
judges_too_long left left' faults faults' t same = record {
  on_text = tt;
  told = too_long left left' t.bytes t.counted t.taken;
  ended = λ u gap e. absurd cc;
  most = record { bytes = t.bytes; short = omega (arith, t.counted); taken = t.taken };
  long = λ e. t;
  no_fault = same;
}
