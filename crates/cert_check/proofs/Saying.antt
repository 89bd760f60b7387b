-- Heads that say the same line by line say the same on each line.
use Rattle.std.proofs.Common.{◌≡◌, ℕ, zero, suc, ◌+◌, ◌<◌, ◌≤◌, List, [], ◌∷◌, ◌++◌, map, sym, ap, subst, ◌∙◌, arith}
use Rattle.std.specs.List.{range_with_len}
use Rattle.cert_format.specs.declared.heads.Head.{Head}
use Rattle.cert_format.specs.Heads.{says, said_of, shape_of}
use Rattle.cert_lines.specs.Lines.{Said}
use Rattle.cert_lines.specs.Places.{places, paired, numbered, edition_line}
use Rattle.cert_lines.specs.declared.places.Place.{Place}
use Rattle.cert_lines.specs.declared.places.Place.TheVariants.{Version, Temperature, Pressure, Edition, Component, Interaction, RootTwo, LogE, TemperatureRoot, PressureRoot, Split, Phase, Upper, Plane, Low, Gap}
use Rattle.cert_lines.specs.declared.places.Shape.{Shape}

-- ---- every place of a list
Each : (Place → Type 0) → List Place → Type 0
Each P [] = Unit {0}
Each P (p ∷ ps) = P p × Each P ps

front : (P : Place → Type 0) (ps qs : List Place) → Each P (ps ++ qs) → Each P ps
unfolding Each
front P [] qs e = tt
front P (p ∷ ps) qs e = (e.0, front P ps qs e.1)

behind : (P : Place → Type 0) (ps qs : List Place) → Each P (ps ++ qs) → Each P qs
unfolding Each
behind P [] qs e = e
behind P (p ∷ ps) qs e = behind P ps qs e.1

of_range : (P : Place → Type 0) (line : ℕ → Place) (from n i : ℕ) → i < n → Each P (map line (range_with_len from n)) → P (line (from + i))
unfolding Each
of_range P line from zero i l e = absurd (omega (arith, l))
of_range P line from (suc n) zero l e = let same : from + 0 ≡ from = omega arith in rw same e.0
of_range P line from (suc n) (suc i) l e =
    let same : from + suc i ≡ from + 1 + i = omega arith in
    rw same (of_range P line (from + 1) n i (omega (arith, l)) e.1)

of_numbered : (P : Place → Type 0) (line : ℕ → Place) (n i : ℕ) → i < n → Each P (numbered line n) → P (line i)
of_numbered P line n i l e = let same : 0 + i ≡ i = omega arith in subst (λ (k : ℕ). P (line k)) same (of_range P line 0 n i l e)

-- ---- each line of a head
-- they say the same there
abbrev AreAlike : Head → Head → Place → Type 0
AreAlike h g p = says h p ≡ says g p

first_of : (x y : Said) (xs ys : List Said) → x ∷ xs ≡ y ∷ ys → x ≡ y
first_of x y xs ys e = cc

rest_of : (x y : Said) (xs ys : List Said) → x ∷ xs ≡ y ∷ ys → xs ≡ ys
rest_of x y xs ys e = cc

alike : (h g : Head) (ps : List Place) → map (says h) ps ≡ map (says g) ps → Each (AreAlike h g) ps
unfolding Each
alike h g [] e = tt
alike h g (p ∷ ps) e =
    (first_of (says h p) (says g p) (map (says h) ps) (map (says g) ps) e, alike h g ps (rest_of (says h p) (says g p) (map (says h) ps) (map (says g) ps) e))

-- the lines of each kind
pub record AllAlike (h g : Head) (s : Shape) : Type 0 where
  pub version : AreAlike h g Version
  pub temperature : AreAlike h g Temperature
  pub pressure : AreAlike h g Pressure
  pub edition : s.version ≡ 2 → AreAlike h g Edition
  pub components : (i : ℕ) → i < s.n → AreAlike h g (Component i)
  pub interactions : (i j : ℕ) → i < j → j < s.n → AreAlike h g (Interaction i j)
  pub two : AreAlike h g RootTwo
  pub log_e : AreAlike h g LogE
  pub temperature_roots : (i : ℕ) → i < s.n → AreAlike h g (TemperatureRoot i)
  pub pressure_roots : (i j : ℕ) → i < j → j < s.n → AreAlike h g (PressureRoot i j)
  pub split : AreAlike h g Split
  pub phases : (k : ℕ) → k < s.phases → AreAlike h g (Phase k)
  pub upper : AreAlike h g Upper
  pub plane : AreAlike h g Plane
  pub low : AreAlike h g Low
  pub gap : AreAlike h g Gap

-- the pairs of at most four components
of_pairs : (P : Place → Type 0) (line : ℕ → ℕ → Place) (n i j : ℕ) → n ≤ 4 → i < j → j < n → Each P (paired line n) → P (line i j)
unfolding Each
of_pairs P line (suc (suc zero)) zero (suc zero) few l m e = e.0
of_pairs P line (suc (suc (suc zero))) zero (suc zero) few l m e = e.0
of_pairs P line (suc (suc (suc zero))) zero (suc (suc zero)) few l m e = e.1.0
of_pairs P line (suc (suc (suc zero))) (suc zero) (suc (suc zero)) few l m e = e.1.1.0
of_pairs P line (suc (suc (suc (suc zero)))) zero (suc zero) few l m e = e.0
of_pairs P line (suc (suc (suc (suc zero)))) zero (suc (suc zero)) few l m e = e.1.0
of_pairs P line (suc (suc (suc (suc zero)))) zero (suc (suc (suc zero))) few l m e = e.1.1.0
of_pairs P line (suc (suc (suc (suc zero)))) (suc zero) (suc (suc zero)) few l m e = e.1.1.1.0
of_pairs P line (suc (suc (suc (suc zero)))) (suc zero) (suc (suc (suc zero))) few l m e = e.1.1.1.1.0
of_pairs P line (suc (suc (suc (suc zero)))) (suc (suc zero)) (suc (suc (suc zero))) few l m e = e.1.1.1.1.1.0
of_pairs P line n i j few l m e = absurd (omega (arith, few, l, m))

-- ---- all lines of two heads of one shape
all_alike : (h g : Head) (s : Shape) → s.n ≤ 4 → Each (AreAlike h g) (places s) → AllAlike h g s
unfolding Each places
all_alike h g s few e =
    let P = AreAlike h g in
    let a = e.1.1.1.1 in
    let b = behind P (edition_line s.version) _ a in
    let c = behind P (numbered Component s.n) _ b in
    let d = behind P (paired Interaction s.n) _ c in
    let f = behind P (numbered TemperatureRoot s.n) _ d.1.1 in
    let k = behind P (paired PressureRoot s.n) _ f in
    let l = behind P (numbered Phase s.phases) _ k.1 in
    record {
      version = e.0;
      temperature = e.1.0;
      pressure = e.1.1.0;
      edition = λ is. (subst (λ (v : ℕ). Each P (edition_line v)) is (front P (edition_line s.version) _ a)).0;
      components = λ i m. of_numbered P Component s.n i m (front P (numbered Component s.n) _ b);
      interactions = λ i j m o. of_pairs P Interaction s.n i j few m o (front P (paired Interaction s.n) _ c);
      two = d.0;
      log_e = d.1.0;
      temperature_roots = λ i m. of_numbered P TemperatureRoot s.n i m (front P (numbered TemperatureRoot s.n) _ d.1.1);
      pressure_roots = λ i j m o. of_pairs P PressureRoot s.n i j few m o (front P (paired PressureRoot s.n) _ f);
      split = k.0;
      phases = λ i m. of_numbered P Phase s.phases i m (front P (numbered Phase s.phases) _ k.1);
      upper = l.0;
      plane = l.1.0;
      low = l.1.1.0;
      gap = l.1.1.1.0;
    }

pub said_alike : (h g : Head) → shape_of h ≡ shape_of g → said_of h ≡ said_of g → AllAlike h g (shape_of h)
said_alike h g shape said =
    let e : map (says h) (places (shape_of h)) ≡ map (says g) (places (shape_of h)) = said ∙ ap (λ (s : Shape). map (says g) (places s)) (sym shape) in
    all_alike h g (shape_of h) h.params.case.few (alike h g (places (shape_of h)) e)
