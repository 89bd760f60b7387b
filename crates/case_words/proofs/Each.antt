-- Items that are read one after the other.
use Rattle.std.proofs.Common.{◌≡◌, ℕ, ◌+◌, ◌<◌, ◌≤◌, List, [], ◌∷◌, ◌++◌, length, get_or, drop, refl, ap, sym, ◌∙◌, append_assoc, append-nil}
use Rattle.std.specs.Prelude.{Result, Ok, Err}
use Rattle.std.proofs.lemmas.List.{drop_more, drop_all}
use Rattle.case_words.specs.Answers.{◌>>=◌, each_of}

-- what is read of the rest, behind what was read
abbrev pub behind : {B F : Type 0} → List B → Result (List B) F → Result (List B) F
behind before rest = rest >>= (λ after. Ok (before ++ after))

pub behind-nothing : {B F : Type 0} (rest : Result (List B) F) → rest ≡ behind [] rest
behind-nothing (Ok after) = refl
behind-nothing (Err fault) = refl

behind-one : {B F : Type 0} (before : List B) (y : B) (rest : Result (List B) F)
    → behind before (rest >>= (λ ys. Ok (y ∷ ys))) ≡ behind (before ++ y ∷ []) rest
behind-one before y (Ok after) = ap Ok (sym (append_assoc before (y ∷ []) after))
behind-one before y (Err fault) = refl

each-cons : {A B F : Type 0} (f : A → Result B F) (x : A) (xs : List A)
    → each_of f (x ∷ xs) ≡ (f x >>= (λ y. each_of f xs >>= (λ ys. Ok (y ∷ ys))))
unfolding each_of
each-cons f x xs = refl

each-nil : {A B F : Type 0} (f : A → Result B F) → each_of f [] ≡ Ok []
unfolding each_of
each-nil f = refl

-- one more item
pub each-more : {A B F : Type 0} (f : A → Result B F) (all : List A) (i : ℕ) (d : A) (before : List B) (y : B) → i < length all
    → f (get_or all i d) ≡ Ok y → each_of f all ≡ behind before (each_of f (drop i all))
    → each_of f all ≡ behind (before ++ y ∷ []) (each_of f (drop (i + 1) all))
each-more {A = A} {B = B} {F = F} f all i d before y inside good so_far =
    so_far
    ∙ ap (λ (rest : List A). behind before (each_of f rest)) (drop_more all i d inside)
    ∙ ap (behind before) (each-cons f (get_or all i d) (drop (i + 1) all)
    ∙ ap (λ (r : Result B F). r >>= (λ z. each_of f (drop (i + 1) all) >>= (λ ys. Ok (z ∷ ys)))) good)
    ∙ behind-one before y (each_of f (drop (i + 1) all))

-- the first fault
pub each-stops : {A B F : Type 0} (f : A → Result B F) (all : List A) (i : ℕ) (d : A) (before : List B) (fault : F) → i < length all
    → f (get_or all i d) ≡ Err fault → each_of f all ≡ behind before (each_of f (drop i all)) → each_of f all ≡ Err fault
each-stops {A = A} {B = B} {F = F} f all i d before fault inside bad so_far =
    so_far
    ∙ ap (λ (rest : List A). behind before (each_of f rest)) (drop_more all i d inside)
    ∙ ap (behind before) (each-cons f (get_or all i d) (drop (i + 1) all)
    ∙ ap (λ (r : Result B F). r >>= (λ z. each_of f (drop (i + 1) all) >>= (λ ys. Ok (z ∷ ys)))) bad)

-- after the last item
pub each-ends : {A B F : Type 0} (f : A → Result B F) (all : List A) (i : ℕ) (before : List B) → length all ≤ i
    → each_of f all ≡ behind before (each_of f (drop i all)) → each_of f all ≡ Ok before
each-ends {A = A} f all i before end so_far =
    so_far
    ∙ ap (λ (rest : List A). behind before (each_of f rest)) (drop_all i all end)
    ∙ ap (behind before) (each-nil f)
    ∙ ap Ok (append-nil before)
