-- What the lines of a head look like.
use Rattle.std.specs.Prelude.{ℕ, ◌+◌, ◌-◌, ◌^◌, List, [], ◌∷◌, take, Bool, true, false, codes, ℤ, pos, neg_ℤ}
use Rattle.cert_lines.specs.declared.lines.Range.{Range}
use Rattle.cert_lines.specs.declared.places.Place.{Place}
use Rattle.cert_lines.specs.declared.places.Place.TheVariants.{Version, Temperature, Pressure, Count, Edition, Component, Interaction, RootTwo, LogE, TemperatureRoot, PressureRoot, Split, Phase, Upper, Plane, Low, Gap, Letters}

-- the word of a line
abbrev pub word_of : Place → List ℕ
word_of Version = codes "prflash-cert"
word_of Temperature = codes "T"
word_of Pressure = codes "P"
word_of Count = codes "n"
word_of Edition = codes "kappa"
word_of (Component i) = codes "c"
word_of (Interaction i j) = codes "k"
word_of RootTwo = codes "two"
word_of LogE = codes "e"
word_of (TemperatureRoot i) = codes "t"
word_of (PressureRoot i j) = codes "q"
word_of Split = codes "split"
word_of (Phase k) = codes "f"
word_of Upper = codes "U"
word_of Plane = codes "plane"
word_of Low = codes "low"
word_of Gap = codes "gap"
word_of Letters = codes "tree"

-- whether a line has a name: that of a component alone
abbrev pub is_named : Place → Bool
is_named (Component i) = true
is_named other = false

-- ---- ranges
abbrev pub between : ℤ → ℤ → Range
between low high = record { low = low; high = high }

-- the number of a component, which counts from 1 in the text
abbrev pub only : ℕ → Range
only i = between (pos (i + 1)) (pos (i + 1))

-- of size below this
abbrev pub below_size : ℕ → Range
below_size limit = between (neg_ℤ (pos (limit - 1))) (pos (limit - 1))

-- an end of a pair
abbrev pub end : Range
end = below_size (2 ^ 62)

-- a part of a phase
abbrev pub part : Range
part = between (pos 0) (pos (2 ^ 104 - 1))

-- a packing fraction in 2^-40, strictly between 0 and 1
abbrev pub packing : Range
packing = between (pos 1) (pos (2 ^ 40 - 1))

-- an energy, a potential or a difference of two, in 2^-40 bit
abbrev pub energy : Range
energy = below_size (2 ^ 80)

-- the numbers of a line, for n components
abbrev pub ranges_of : ℕ → Place → List Range
ranges_of n Version = between (pos 1) (pos 2) ∷ []
ranges_of n Temperature = between (pos 50000) (pos 1500000) ∷ []
ranges_of n Pressure = between (pos 1000) (pos 100000000) ∷ []
ranges_of n Count = between (pos 1) (pos 4) ∷ []
ranges_of n Edition = between (pos 76) (pos 78) ∷ []
ranges_of n (Component i) =
    between (pos 5000) (pos 1500000) ∷ between (pos 100000) (pos 50000000) ∷ between (neg_ℤ (pos 5000)) (pos 15000) ∷ between (pos 1) (pos 1048576) ∷ []
ranges_of n (Interaction i j) = only i ∷ only j ∷ between (neg_ℤ (pos 5000)) (pos 5000) ∷ []
ranges_of n RootTwo = end ∷ end ∷ []
ranges_of n LogE = end ∷ end ∷ []
ranges_of n (TemperatureRoot i) = only i ∷ end ∷ end ∷ []
ranges_of n (PressureRoot i j) = only i ∷ only j ∷ end ∷ end ∷ []
ranges_of n Split = between (pos 1) (pos 4) ∷ between (pos 1) (pos (2 ^ 104 - 1)) ∷ []
ranges_of n (Phase k) = take (n + 1) (packing ∷ part ∷ part ∷ part ∷ part ∷ [])
ranges_of n Upper = energy ∷ []
ranges_of n Plane = take n (energy ∷ energy ∷ energy ∷ energy ∷ [])
ranges_of n Low = energy ∷ []
ranges_of n Gap = energy ∷ []
ranges_of n Letters = between (pos 1) (pos 60000000) ∷ []
