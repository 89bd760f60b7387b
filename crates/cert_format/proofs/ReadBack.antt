-- A head that is written is read back.
use Rattle.std.proofs.Common.{◌≡◌, ℕ, zero, suc, ◌+◌, ◌<◌, ◌≤◌, List, [], ◌∷◌, ◌++◌, length, map, refl, sym, ap, subst, ◌∙◌, arith, append_assoc, append-nil, true, inl, inr, Some, None}
use Rattle.std.specs.List.{All, range_with_len, slice_get}
use Rattle.std.proofs.lemmas.List.{map-append, length-map, append_cancel_right}
use Rattle.std.proofs.lemmas.List.Elements.{All-append, All-from_recursion, All-head, All-map, All-push, All-tail, All-weaker}
use Rattle.log_laws.specs.Sums.{sum_below}
use Rattle.case_types.specs.Energy.Components.{feed}
use Rattle.cert_lines.specs.Forms.{is_named, ranges_of, word_of}
use Rattle.cert_lines.specs.HeadTexts.{CanSay, Says, head_end, HeadEnd, Whole}
use Rattle.cert_lines.specs.Heads.{Draft, blank, next_place, part_in, put, reshaped, suits}
use Rattle.cert_lines.specs.Lines.{Fits, Said, line_text}
use Rattle.cert_lines.specs.Places.{IsPlaceOf, edition_line, numbered, paired, place_at, places}
use Rattle.cert_lines.specs.declared.places.Place.{Place}
use Rattle.cert_lines.specs.declared.places.Place.TheVariants.{Version, Temperature, Pressure, Count, Edition as EditionLine, Component, Interaction, RootTwo, LogE, TemperatureRoot, PressureRoot, Split as SplitLine, Phase as PhaseLine, Upper, Plane, Low, Gap, Letters}
use Rattle.cert_lines.specs.declared.places.Shape.{Shape}
use Rattle.cert_lines.proofs.Exports.{edition_each, heads_are_read, lines_again, numbered_each, paired_each, places_stand}
use Rattle.cert_format.specs.Heads.{IsHead, head_text, line_of, said_of, says, shape_of}
use Rattle.cert_format.specs.Writing.{HeadsAreReadBack, HeadsSayOneThing, IsReadBack, IsSized, TextsSayOneThing}
use Rattle.cert_format.specs.declared.heads.Head.{Head}
use Rattle.cert_format.proofs.Fitting.{says_fits}
use Rattle.cert_format.proofs.Suiting.{IsBefore, component_suits, feed_room, is_steady, read_up_to, says_suits, steady_part, steady_shape}

-- ---- one line more
says_more : (d after : Draft) (said : List Said) (lines : List (List ℕ)) (place : Place) (s : Said) → Says d said lines after → CanSay after place s
    → Says d (said ++ s ∷ []) (lines ++ line_text (word_of place) (is_named place) s ∷ []) (put after place s)
unfolding Says
says_more d after [] lines place s f can =
    let line = line_text (word_of place) (is_named place) s in
    (place, [], subst (λ (x : Draft). CanSay x place s) f.1 can, ap (λ (ls : List (List ℕ)). ls ++ line ∷ []) f.0, (refl, ap (λ (x : Draft). put x place s) f.1))
says_more d after (x ∷ said) lines place s f can =
    let line = line_text (word_of place) (is_named place) s in
    (f.0, f.1 ++ line ∷ [], f.2, ap (λ (ls : List (List ℕ)). ls ++ line ∷ []) f.3, says_more (put d f.0 x) after said f.1 place s f.4 can)

-- the draft in which these lines of a head were said
abbrev state : Head → Shape → ℕ → List Place → Draft
state h sh fed front = record { shape = sh; fed = fed; said = map (says h) front }

-- the lines in front lead to it
abbrev Reached : Head → Shape → ℕ → List Place → Type 0
Reached h sh fed front = Says blank (map (says h) front) (map (line_of h) front) (state h sh fed front)

-- ---- the line that is wanted next
at_seam : (front rest : List Place) (p : Place) → slice_get (front ++ p ∷ rest) (length front) ≡ Some p
at_seam [] rest p = refl
at_seam (x ∷ front) rest p = at_seam front rest p

next_is : (h : Head) (sh : Shape) (fed : ℕ) (front rest : List Place) (p : Place) → sh.n ≤ 4 → places sh ≡ front ++ p ∷ rest → next_place (state h sh fed front) ≡ Some p
next_is h sh fed front rest p few e =
    ap (place_at sh) (length-map front (says h)) ∙ places_stand sh few (length front) ∙ ap (λ (ps : List Place). slice_get ps (length front)) e ∙ at_seam front rest p

step : (h : Head) (sh after : Shape) (fed more : ℕ) (front rest : List Place) (p : Place) → sh.n ≤ 4 → places sh ≡ front ++ p ∷ rest
    → Fits (is_named p) (ranges_of sh.n p) (says h p) → suits (state h sh fed front) p (says h p) ≡ true
    → reshaped sh p (says h p) ≡ after → fed + part_in p (says h p) ≡ more
    → Reached h sh fed front → Reached h after more (front ++ p ∷ [])
step h sh after fed more front rest p few e fits suit shape part reached =
    rw (map-append (says h) front (p ∷ []), map-append (line_of h) front (p ∷ []), ← shape, ← part)
    (says_more blank (state h sh fed front) (map (says h) front) (map (line_of h) front) p (says h p) reached
    (record { next = next_is h sh fed front rest p few e; fits = fits; suits = suit }))

-- ---- lines that leave the shape and the feed as they were
record IsGood (h : Head) (p : Place) : Type 0 where
  steady : is_steady p ≡ true
  place : IsPlaceOf (shape_of h) p

good : (h : Head) (p : Place) → is_steady p ≡ true → IsPlaceOf (shape_of h) p → IsGood h p
good h p steady place = record { steady = steady; place = place }

steadies : (h : Head) (is : IsHead h) (sized : IsSized h) (sh : Shape) (fed : ℕ) (front qs rest : List Place) → sh.n ≡ h.params.case.n
    → places sh ≡ front ++ (qs ++ rest) → All (IsGood h) qs → Reached h sh fed front → Reached h sh fed (front ++ qs)
steadies h is sized sh fed front [] rest n e all reached = rw (append-nil front) reached
steadies h is sized sh fed front (q ∷ qs) rest n e all reached =
    let g = All-head (IsGood h) q qs all in
    let few : sh.n ≤ 4 = omega (arith, n, h.params.case.few) in
    let fits : Fits (is_named q) (ranges_of sh.n q) (says h q) =
    subst (λ (k : ℕ). Fits (is_named q) (ranges_of k q) (says h q)) (sym n) (says_fits h is sized q g.place) in
    let part : fed + part_in q (says h q) ≡ fed = omega (arith, steady_part q (says h q) g.steady) in
    let one = step h sh sh fed fed front (qs ++ rest) q few e fits (says_suits h is sized q g.place g.steady (state h sh fed front)) (steady_shape q sh (says h q) g.steady) part reached in
    subst (λ (ps : List Place). Reached h sh fed ps) (append_assoc front (q ∷ []) qs)
    (steadies h is sized sh fed (front ++ q ∷ []) qs rest n (e ∙ sym (append_assoc front (q ∷ []) (qs ++ rest))) (All-tail (IsGood h) q qs all) one)

-- ---- the lines of the components
before_more : (h : Head) (k : ℕ) (e : Said) → IsBefore h k e → IsBefore h (k + 1) e
before_more h k e before = elim before [
  | inl none ↦ inl none
  | inr one ↦ inr (one.0, omega (arith, one.1), one.2)
]

added : (h : Head) (k : ℕ) → k < h.params.case.n
    → sum_below k (feed h.params.case) + part_in (Component k) (says h (Component k)) ≡ sum_below (k + 1) (feed h.params.case)
unfolding says
added h k live =
    let f : ℕ → ℕ = feed h.params.case in
    let more : suc k ≡ k + 1 = omega arith in
    ap (λ (m : ℕ). sum_below k f + m) (read_up_to 1048576 (f k) (omega (arith, feed_room h.params.case k live))) ∙ ap (λ (j : ℕ). sum_below j f) more

own : (h : Head) (k : ℕ) → IsBefore h (k + 1) (says h (Component k))
unfolding says
own h k = inr (k, omega arith, refl)

components : (h : Head) (is : IsHead h) (sized : IsSized h) (sh : Shape) (k m : ℕ) (front rest : List Place) → sh.n ≡ h.params.case.n → k + m ≡ h.params.case.n
    → places sh ≡ front ++ (map Component (range_with_len k m) ++ rest) → All (IsBefore h k) (map (says h) front)
    → Reached h sh (sum_below k (feed h.params.case)) front
    → Reached h sh (sum_below h.params.case.n (feed h.params.case)) (front ++ map Component (range_with_len k m))
components h is sized sh k zero front rest n all e before reached =
    let same : k ≡ h.params.case.n = omega (arith, all) in
    rw (append-nil front) (subst (λ (j : ℕ). Reached h sh (sum_below j (feed h.params.case)) front) same reached)
components h is sized sh k (suc m) front rest n all e before reached =
    let c = h.params.case in
    let p = Component k in
    let others = map Component (range_with_len (k + 1) m) in
    let live : k < c.n = omega (arith, all) in
    let few : sh.n ≤ 4 = omega (arith, n, c.few) in
    let fits : Fits (is_named p) (ranges_of sh.n p) (says h p) =
    subst (λ (j : ℕ). Fits (is_named p) (ranges_of j p) (says h p)) (sym n) (says_fits h is sized p live) in
    let part : sum_below k (feed c) + part_in p (says h p) ≡ sum_below (k + 1) (feed c) = added h k live in
    let one = step h sh sh (sum_below k (feed c)) (sum_below (k + 1) (feed c)) front (others ++ rest) p few e fits
    (component_suits h is k live (state h sh (sum_below k (feed c)) front) refl before) refl part reached in
    let names : All (IsBefore h (k + 1)) (map (says h) (front ++ p ∷ [])) =
    rw (map-append (says h) front (p ∷ []))
    (All-push (IsBefore h (k + 1)) (map (says h) front) (says h p)
    (All-weaker (IsBefore h k) (IsBefore h (k + 1)) (before_more h k) (map (says h) front) before) (own h k)) in
    subst (λ (ps : List Place). Reached h sh (sum_below c.n (feed c)) ps) (append_assoc front (p ∷ []) others)
    (components h is sized sh (k + 1) m (front ++ p ∷ []) rest n (omega (arith, all)) (e ∙ sym (append_assoc front (p ∷ []) (others ++ rest))) names one)

-- ---- the sections of a head
-- what stands in front of each section, and from it on
abbrev front4 : List Place
front4 = Version ∷ Temperature ∷ Pressure ∷ Count ∷ []

abbrev front5 : ℕ → List Place
front5 v = front4 ++ edition_line v

abbrev front6 : ℕ → ℕ → List Place
front6 v n = front5 v ++ numbered Component n

abbrev front7 : ℕ → ℕ → List Place
front7 v n = front6 v n ++ paired Interaction n

abbrev front8 : ℕ → ℕ → List Place
front8 v n = front7 v n ++ (RootTwo ∷ LogE ∷ [])

abbrev front9 : ℕ → ℕ → List Place
front9 v n = front8 v n ++ numbered TemperatureRoot n

abbrev front10 : ℕ → ℕ → List Place
front10 v n = front9 v n ++ paired PressureRoot n

abbrev front11 : ℕ → ℕ → List Place
front11 v n = front10 v n ++ SplitLine ∷ []

abbrev front12 : ℕ → ℕ → ℕ → List Place
front12 v n phases = front11 v n ++ numbered PhaseLine phases

abbrev front13 : ℕ → ℕ → ℕ → List Place
front13 v n phases = front12 v n phases ++ (Upper ∷ Plane ∷ Low ∷ Gap ∷ [])

abbrev behind12 : List Place
behind12 = (Upper ∷ Plane ∷ Low ∷ Gap ∷ []) ++ Letters ∷ []

abbrev behind11 : Shape → List Place
behind11 s = numbered PhaseLine s.phases ++ behind12

abbrev behind10 : Shape → List Place
behind10 s = SplitLine ∷ behind11 s

abbrev behind9 : Shape → List Place
behind9 s = paired PressureRoot s.n ++ behind10 s

abbrev behind8 : Shape → List Place
behind8 s = numbered TemperatureRoot s.n ++ behind9 s

abbrev behind7 : Shape → List Place
behind7 s = (RootTwo ∷ LogE ∷ []) ++ behind8 s

abbrev behind6 : Shape → List Place
behind6 s = paired Interaction s.n ++ behind7 s

abbrev behind5 : Shape → List Place
behind5 s = numbered Component s.n ++ behind6 s

shift : (all front qs rest : List Place) → all ≡ front ++ (qs ++ rest) → all ≡ (front ++ qs) ++ rest
shift all front qs rest e = e ∙ sym (append_assoc front qs rest)

at4 : (s : Shape) → places s ≡ front4 ++ (edition_line s.version ++ behind5 s)
unfolding places
at4 s = refl

at5 : (s : Shape) → places s ≡ front5 s.version ++ behind5 s
at5 s = shift (places s) front4 (edition_line s.version) (behind5 s) (at4 s)

at6 : (s : Shape) → places s ≡ front6 s.version s.n ++ behind6 s
at6 s = shift (places s) (front5 s.version) (numbered Component s.n) (behind6 s) (at5 s)

at7 : (s : Shape) → places s ≡ front7 s.version s.n ++ behind7 s
at7 s = shift (places s) (front6 s.version s.n) (paired Interaction s.n) (behind7 s) (at6 s)

at8 : (s : Shape) → places s ≡ front8 s.version s.n ++ behind8 s
at8 s = shift (places s) (front7 s.version s.n) (RootTwo ∷ LogE ∷ []) (behind8 s) (at7 s)

at9 : (s : Shape) → places s ≡ front9 s.version s.n ++ behind9 s
at9 s = shift (places s) (front8 s.version s.n) (numbered TemperatureRoot s.n) (behind9 s) (at8 s)

at10 : (s : Shape) → places s ≡ front10 s.version s.n ++ behind10 s
at10 s = shift (places s) (front9 s.version s.n) (paired PressureRoot s.n) (behind10 s) (at9 s)

at11 : (s : Shape) → places s ≡ front11 s.version s.n ++ behind11 s
at11 s = shift (places s) (front10 s.version s.n) (SplitLine ∷ []) (behind11 s) (at10 s)

at12 : (s : Shape) → places s ≡ front12 s.version s.n s.phases ++ behind12
at12 s = shift (places s) (front11 s.version s.n) (numbered PhaseLine s.phases) behind12 (at11 s)

at13 : (s : Shape) → places s ≡ front13 s.version s.n s.phases ++ Letters ∷ []
at13 s = shift (places s) (front12 s.version s.n s.phases) (Upper ∷ Plane ∷ Low ∷ Gap ∷ []) (Letters ∷ []) (at12 s)

-- ---- how the shape grows
abbrev unread : Shape
unread = record { version = 0; n = 0; phases = 0; letters = 0 }

abbrev with_version : Head → Shape
with_version h = record { version = h.version; n = 0; phases = 0; letters = 0 }

abbrev with_count : Head → Shape
with_count h = record { version = h.version; n = h.params.case.n; phases = 0; letters = 0 }

abbrev with_phases : Head → Shape
with_phases h = record { version = h.version; n = h.params.case.n; phases = length h.split.phases.items; letters = 0 }

small_version : (h : Head) → IsHead h → h.version ≤ 4
small_version h is = elim is.version [
  | inl one ↦ omega (arith, one.0)
  | inr two ↦ omega (arith, two)
]

reach_start : (h : Head) → Reached h unread 0 []
unfolding Says
reach_start h = (refl, refl)

reach_version : (h : Head) → IsHead h → IsSized h → Reached h (with_version h) 0 (Version ∷ [])
unfolding says places
reach_version h is sized =
    step h unread (with_version h) 0 0 [] _ Version (omega arith) refl (says_fits h is sized Version tt) refl
    (ap (λ (v : ℕ). record unread { version = v }) (read_up_to 4 h.version (small_version h is))) refl (reach_start h)

reach_pressure : (h : Head) → IsHead h → IsSized h → Reached h (with_version h) 0 (Version ∷ Temperature ∷ Pressure ∷ [])
unfolding says places
reach_pressure h is sized =
    let sh = with_version h in
    step h sh sh 0 0 (Version ∷ Temperature ∷ []) _ Pressure (omega arith) refl (says_fits h is sized Pressure tt) refl refl refl
    (step h sh sh 0 0 (Version ∷ []) _ Temperature (omega arith) refl (says_fits h is sized Temperature tt) refl refl refl (reach_version h is sized))

reach_count : (h : Head) → IsHead h → IsSized h → Reached h (with_count h) 0 front4
unfolding says places
reach_count h is sized =
    step h (with_version h) (with_count h) 0 0 (Version ∷ Temperature ∷ Pressure ∷ []) _ Count (omega arith) refl (says_fits h is sized Count tt) refl
    (ap (λ (n : ℕ). record (with_version h) { n = n }) (read_up_to 4 h.params.case.n h.params.case.few)) refl (reach_pressure h is sized)

reach_edition : (h : Head) → IsHead h → IsSized h → Reached h (with_count h) 0 (front5 h.version)
reach_edition h is sized =
    steadies h is sized (with_count h) 0 front4 (edition_line h.version) (behind5 (with_count h)) refl (at4 (with_count h))
    (edition_each (IsGood h) h.version (good h EditionLine refl tt)) (reach_count h is sized)

-- no line in front of the components has a name
nameless : (h : Head) → All (IsBefore h 0) (map (says h) (front5 h.version))
unfolding says
nameless h =
    let P : Place → Type 0 = λ p. IsBefore h 0 (says h p) in
    All-map (IsBefore h 0) (says h) (front5 h.version)
    (All-append P front4 (edition_line h.version) (All-from_recursion P front4 (inl refl, (inl refl, (inl refl, (inl refl, tt)))))
    (edition_each P h.version (inl refl)))

abbrev all_fed : Head → ℕ
all_fed h = sum_below h.params.case.n (feed h.params.case)

reach_components : (h : Head) → IsHead h → IsSized h → Reached h (with_count h) (all_fed h) (front6 h.version h.params.case.n)
reach_components h is sized =
    components h is sized (with_count h) 0 h.params.case.n (front5 h.version) (behind6 (with_count h)) refl (omega arith) (at5 (with_count h)) (nameless h) (reach_edition h is sized)

reach_roots : (h : Head) → IsHead h → IsSized h → Reached h (with_count h) (all_fed h) (front10 h.version h.params.case.n)
reach_roots h is sized =
    let sh = with_count h in
    let n = h.params.case.n in
    let v = h.version in
    let few = h.params.case.few in
    let interactions = steadies h is sized sh (all_fed h) (front6 v n) (paired Interaction n) (behind7 sh) refl (at6 sh)
    (paired_each (IsGood h) Interaction n few (λ i j l m. good h (Interaction i j) refl (l, m))) (reach_components h is sized) in
    let constants = steadies h is sized sh (all_fed h) (front7 v n) (RootTwo ∷ LogE ∷ []) (behind8 sh) refl (at7 sh)
    (All-from_recursion (IsGood h) (RootTwo ∷ LogE ∷ []) (good h RootTwo refl tt, (good h LogE refl tt, tt))) interactions in
    let temperatures = steadies h is sized sh (all_fed h) (front8 v n) (numbered TemperatureRoot n) (behind9 sh) refl (at8 sh)
    (numbered_each (IsGood h) TemperatureRoot n (λ i l. good h (TemperatureRoot i) refl l)) constants in
    steadies h is sized sh (all_fed h) (front9 v n) (paired PressureRoot n) (behind10 sh) refl (at9 sh)
    (paired_each (IsGood h) PressureRoot n few (λ i j l m. good h (PressureRoot i j) refl (l, m))) temperatures

no_more : (fed : ℕ) → fed + 0 ≡ fed
no_more fed = omega arith

reach_split : (h : Head) → IsHead h → IsSized h → Reached h (with_phases h) (all_fed h) (front11 h.version h.params.case.n)
unfolding says
reach_split h is sized =
    let sh = with_count h in
    step h sh (with_phases h) (all_fed h) (all_fed h) (front10 h.version h.params.case.n) (behind11 sh) SplitLine h.params.case.few (at10 sh) (says_fits h is sized SplitLine tt) refl
    (ap (λ (k : ℕ). record sh { phases = k }) (read_up_to 4 (length h.split.phases.items) sized.phases)) (no_more (all_fed h)) (reach_roots h is sized)

reach_gap : (h : Head) → IsHead h → IsSized h → Reached h (with_phases h) (all_fed h) (front13 h.version h.params.case.n (length h.split.phases.items))
reach_gap h is sized =
    let sh = with_phases h in
    let n = h.params.case.n in
    let v = h.version in
    let phases = length h.split.phases.items in
    let ends = Upper ∷ Plane ∷ Low ∷ Gap ∷ [] in
    steadies h is sized sh (all_fed h) (front12 v n phases) ends (Letters ∷ []) refl (at12 sh)
    (All-from_recursion (IsGood h) ends (good h Upper refl tt, (good h Plane refl tt, (good h Low refl tt, (good h Gap refl tt, tt)))))
    (steadies h is sized sh (all_fed h) (front11 v n) (numbered PhaseLine phases) behind12 refl (at11 sh)
    (numbered_each (IsGood h) PhaseLine phases (λ k l. good h (PhaseLine k) refl l)) (reach_split h is sized))

reach_end : (h : Head) → IsHead h → IsSized h → Reached h (shape_of h) (all_fed h) (places (shape_of h))
unfolding says
reach_end h is sized =
    let sh = with_phases h in
    subst (λ (ps : List Place). Reached h (shape_of h) (all_fed h) ps) (sym (at13 (shape_of h)))
    (step h sh (shape_of h) (all_fed h) (all_fed h) (front13 h.version h.params.case.n (length h.split.phases.items)) [] Letters h.params.case.few (at13 sh) (says_fits h is sized Letters tt) refl
    (ap (λ (k : ℕ). record sh { letters = k }) (read_up_to 60000000 h.letters is.few)) (no_more (all_fed h)) (reach_gap h is sized))

-- ---- the head that is read
-- past the last line
at_end : (ps : List Place) → slice_get ps (length ps) ≡ None
at_end [] = refl
at_end (p ∷ ps) = at_end ps

pub read_back : (h : Head) (is : IsHead h) (sized : IsSized h) → IsReadBack h (state h (shape_of h) (all_fed h) (places (shape_of h)))
read_back h is sized =
    let s = shape_of h in
    let d = state h s (all_fed h) (places s) in
    let lines = lines_again blank d (said_of h) (map (line_of h) (places s)) (reach_end h is sized) in
    let whole : next_place d ≡ None = ap (place_at s) (length-map (places s) (says h)) ∙ places_stand s h.params.case.few (length (places s)) ∙ at_end (places s) in
    record {
      said = record { head = is; shape = refl; said = refl };
      lines = lines;
      whole = whole;
      front = λ rest. heads_are_read.1 (map (line_of h) (places s)) d rest lines whole;
    }

pub heads_are_read_back : HeadsAreReadBack
heads_are_read_back h is sized = (state h (shape_of h) (all_fed h) (places (shape_of h)), read_back h is sized)

-- ---- heads with one text
same_whole : (d e : Draft) (rest others : List ℕ) → Whole d rest ≡ Whole e others → (d.said ≡ e.said) × (rest ≡ others)
same_whole d e rest others same = (ap said_in same, ap rest_in same)
  where
    said_in : HeadEnd → List Said
    said_in (Whole d rest) = d.said
    said_in other = []

    rest_in : HeadEnd → List ℕ
    rest_in (Whole d rest) = rest
    rest_in other = []

-- the same text, and then the same rest
same_text : (h g : Head) (rest others : List ℕ) → IsHead h → IsSized h → IsHead g → IsSized g → head_text h ++ rest ≡ head_text g ++ others → (said_of h ≡ said_of g) × (rest ≡ others)
same_text h g rest others is sized also fits e =
    same_whole (state h (shape_of h) (all_fed h) (places (shape_of h))) (state g (shape_of g) (all_fed g) (places (shape_of g))) rest others
    (sym ((read_back h is sized).front rest) ∙ ap (head_end blank []) e ∙ (read_back g also fits).front others)

pub heads_say_one_thing : HeadsSayOneThing
heads_say_one_thing h g is sized also fits e = (same_text h g [] [] is sized also fits (ap (λ (t : List ℕ). t ++ []) e)).0

pub texts_say_one_thing : TextsSayOneThing
texts_say_one_thing h g letters others is sized also fits e =
    let both = same_text h g _ _ is sized also fits e in
    (both.0, append_cancel_right letters others _ both.1)
