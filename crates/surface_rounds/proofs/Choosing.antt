-- The least energy of the rivals and of the basis, and the first one that lies near it.
use Rattle.std.proofs.Common.{◌≡◌, ℕ, ◌+◌, ◌<◌, inl, inr, List, length, ℤ, pos, ◌+ℤ◌, ◌≤ℤ◌, ◌<ℤ◌, refl, sym, arith}
use Rattle.std.proofs.lemmas.Int.{ints}
use Rattle.surface_rounds.specs.declared.choices.Choice.TheVariants as Choices
use Rattle.surface_rounds.specs.declared.splits.Rival.{Rival}
use Rattle.surface_rounds.specs.Choices.{IsLeast, IsNear, IsChosen}
use Rattle.surface_rounds.specs.Rivals.{energy_at}
use Rattle.split_energies.proofs.Exports.{last_or_before, no_less, at_most, through}

-- ---- the least
pub least_begun : (rivals : List Rival) (basis : ℤ) → IsLeast rivals 0 basis basis
least_begun rivals basis = record { no_rival = λ k h. absurd (omega (arith, h)); not_basis = omega (arith, ints); one = inl refl }

pub least_lower : (rivals : List Rival) (k : ℕ) (basis least next : ℤ) → IsLeast rivals k basis least → k < length rivals → next ≡ energy_at rivals k → next <ℤ least →
    IsLeast rivals (k + 1) basis next
least_lower rivals k basis least next so inside e less = record {
  no_rival = λ j h. elim (last_or_before j k h) [
    | inl l ↦ through next least (energy_at rivals j) (at_most next least less) (so.no_rival j l)
    | inr d ↦ rw d (no_less next (energy_at rivals k) e)
  ];
  not_basis = through next least basis (at_most next least less) so.not_basis;
  one = inr (k, inside, e);
}

pub least_stays : (rivals : List Rival) (k : ℕ) (basis least next : ℤ) → IsLeast rivals k basis least → next ≡ energy_at rivals k → least ≤ℤ next → IsLeast rivals (k + 1) basis least
least_stays rivals k basis least next so e more = record {
  no_rival = λ j h. elim (last_or_before j k h) [
    | inl l ↦ so.no_rival j l
    | inr d ↦ rw (d, ← e) more
  ];
  not_basis = so.not_basis;
  one = so.one;
}

-- ---- near the least
raised : (u least z slack : ℤ) → u ≤ℤ (least +ℤ slack) → least ≤ℤ z → u ≤ℤ (z +ℤ slack)
raised u least z slack h k = omega (arith, ints, h, k)

module _ (rivals : List Rival) (basis least slack : ℤ) (so : IsLeast rivals (length rivals) basis least) (some : pos 0 ≤ℤ slack) where
  near : (u : ℤ) → u ≤ℤ (least +ℤ slack) → IsNear rivals basis slack u
  near u h = record {
    rival = λ k l. raised u least (energy_at rivals k) slack h (so.no_rival k l);
    of_basis = raised u least basis slack h so.not_basis;
  }

  -- what is near lies within the limit
  within : (u : ℤ) → IsNear rivals basis slack u → u ≤ℤ (least +ℤ slack)
  within u h = elim so.one [
    | inl e ↦ rw e h.of_basis
    | inr o ↦ rw o.2 (h.rival o.0 o.1)
  ]

  not_near : (u : ℤ) → (least +ℤ slack) <ℤ u → IsNear rivals basis slack u → ⊥
  not_near u h n = let k = within u n in omega (arith, ints, h, k)

  pub chosen_rival : (k : ℕ) (u : ℤ) → k < length rivals → u ≡ energy_at rivals k → energy_at rivals k ≤ℤ (least +ℤ slack) →
      ((j : ℕ) → j < k → (least +ℤ slack) <ℤ energy_at rivals j) → IsChosen rivals basis slack (record { choice = Choices.Rival k; u = u })
  chosen_rival k u inside e h first = record {
    place = inside;
    energy = e;
    near = near u (rw e h);
    first = λ j l. not_near (energy_at rivals j) (first j l);
  }

  -- where no rival lies near, the basis is the least
  basis_least : ((j : ℕ) → j < length rivals → (least +ℤ slack) <ℤ energy_at rivals j) → basis ≡ least
  basis_least none = elim so.one [
    | inl e ↦ sym e
    | inr o ↦ absurd (let k = none o.0 o.1 in let l = o.2 in omega (arith, ints, k, l, some))
  ]

  pub chosen_basis : ((j : ℕ) → j < length rivals → (least +ℤ slack) <ℤ energy_at rivals j) → IsChosen rivals basis slack (record { choice = Choices.OfBasis; u = basis })
  chosen_basis none = record {
    place = tt;
    energy = refl;
    near = near basis (let e = basis_least none in omega (arith, ints, e, some));
    first = λ j l. not_near (energy_at rivals j) (none j l);
  }
