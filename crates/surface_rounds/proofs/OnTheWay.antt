-- A round from its pivots to its end.
use Rattle.std.proofs.Common.{◌≡◌, ℕ, ◌+◌, ◌-◌, ◌^◌, ◌<◌, ◌≤◌, length, Option, Some, None, List, ℤ, ◌+ℤ◌, ◌≤ℤ◌, unsigned_abs, subst, ap, inl, inr, arith, length-append}
use Rattle.std.specs.List.{All}
use Rattle.std.proofs.lemmas.Int.{ints}
use Rattle.std.proofs.lemmas.List.Elements.{All-weaker}
use Rattle.case_types.specs.Spared.{Spared}
use Rattle.case_types.specs.declared.answers.Work.{Work}
use Rattle.case_types.specs.declared.cases.Case.{Case}
use Rattle.case_types.specs.declared.pivots.Pivot.{Pivot}
use Rattle.case_types.specs.declared.planes.Plane.{Plane}
use Rattle.case_types.specs.declared.rounds.Column.{Column}
use Rattle.case_types.specs.declared.units.Units.{Units}
use Rattle.case_types.specs.Grid.Cells.{Tree, visits, root_region}
use Rattle.energy_surface.specs.declared.found.Found.{Found}
use Rattle.energy_surface.specs.declared.found.Found.TheVariants.{Refuted, Spent}
use Rattle.energy_surface.specs.Columns.{IsColumn}
use Rattle.energy_surface.specs.Outcomes.{delta_of}
use Rattle.energy_surface.specs.Program.Bases.{start_places, AreColumns, IsBasis}
use Rattle.energy_surface.specs.Program.Pivots.{IsEntering, IsOptimal}
use Rattle.energy_surface.specs.Program.Planes.{plane_of}
use Rattle.energy_surface.specs.Rounds.{slack_of, basis_up, IsNearScan}
use Rattle.energy_surface.specs.Scans.{scan_packing, one_phase_up}
use Rattle.energy_surface.specs.Searches.{HasLeastLow, low_of}
use Rattle.energy_surface.specs.Surfaces.{Surface, under, plain_low, IsOver}
use Rattle.energy_surface.proofs.Exports.{tree_over, leaf_over}
use Rattle.exact_lp.proofs.Exports.{columns_kept}
use Rattle.box_search.specs.Found.{IsFound}
use Rattle.surface_rounds.specs.declared.choices.Chosen.{Chosen}
use Rattle.surface_rounds.specs.declared.splits.Rival.{Rival}
use Rattle.surface_rounds.specs.Choices.{columns_up, IsChosen}
use Rattle.surface_rounds.specs.Flashing.{AreKept, IsFlashing, IsBetweenRounds, IsAfterRounds, Pivoted}
use Rattle.surface_rounds.specs.Noted.{MakesRound}
use Rattle.surface_rounds.specs.Room.{HasRoom, IsCounted}
use Rattle.surface_rounds.specs.Rivals.{energy_at, AreRivals}
use Rattle.surface_rounds.proofs.ChosenSplits.{columns_up_is}
use Rattle.surface_rounds.proofs.FlashSoFar.{with_pivots, flashing_pivots, Searched, columns_stay, searched_work, flashing_on, CutsShort, cut_work}

-- ---- columns
pub are_columns : (s : Surface) (c : Case) (cols : List Column) → s.count ≡ c.n → length cols < 2 ^ 32 → AreKept s c cols → AreColumns c.n cols
are_columns s c cols count few kept = columns_kept s c.n cols count c.few few kept.enough kept.columns (λ k h. (kept.pure k h).alone)

pub ups_small : (s : Surface) (cols : List Column) → All (λ (col : Column). IsColumn s col) cols → All (λ (col : Column). unsigned_abs col.up < 2 ^ 49) cols
ups_small s cols h = All-weaker (λ (col : Column). IsColumn s col) (λ (col : Column). unsigned_abs col.up < 2 ^ 49) (λ col k. k.small) cols h

pub few_columns : (units : Units) (w : Work) → IsCounted units.spent w → length w.columns.items < 2 ^ 32
few_columns units w counted = omega (arith, counted.columns, units.within, units.in_range)

-- the low that a search answers is one of a tree of the whole domain
over_whole : (s : Surface) (lam : List ℤ) (found : Option ℤ) (low : ℤ) (tree : Tree) → found ≡ Some low →
    HasLeastLow s lam found (visits tree (root_region s.count)) → IsOver s lam low (root_region s.count)
over_whole s lam None low tree e is = absurd (cc e)
over_whole s lam (Some x) low tree e is =
    let same : x ≡ low = cc in
    subst (λ z. IsOver s lam z (root_region s.count)) same (record { tree = tree; over = tree_over s lam x tree (root_region s.count) is.over })

-- ---- what is in hand after the pivots of a round
pub record OnTheWay (s : Surface) (c : Case) (tol : ℕ) (rivals : List Rival) (units mid : Units) (w : Work) (pivots : Spared Pivot) (at to : List ℕ) (x : Chosen) : Type 0 where
  pub count : s.count ≡ c.n
  pub fine : 128 ≤ tol
  pub standing : AreRivals s c rivals
  pub between : IsBetweenRounds s c tol units w at
  pub pivoted : Pivoted c w.columns.items at to w.pivots pivots (mid.spent - units.spent)
  pub basis : IsBasis c w.columns.items to
  pub spent : units.spent ≤ mid.spent
  pub budget : mid.budget ≡ units.budget
  pub choice : IsChosen rivals (columns_up c w.columns.items to) (slack_of tol) x

module _ (s : Surface) (c : Case) (tol : ℕ) (rivals : List Rival) (units mid : Units) (w : Work) (pivots : Spared Pivot) (at to : List ℕ) (x : Chosen) (h : OnTheWay s c tol rivals units mid w pivots at to x) where
  pub good : AreColumns c.n w.columns.items
  good = are_columns s c w.columns.items h.count (few_columns units w h.between.counted) h.between.flashing.kept

  flashing : IsFlashing s c tol mid.spent (with_pivots w pivots) to
  flashing = flashing_pivots s c tol units.spent (mid.spent - units.spent) mid.spent w pivots at to h.between.flashing h.pivoted h.basis (omega (arith, h.spent))

  near_basis : x.u ≤ℤ (basis_up s c w.columns.items to +ℤ slack_of tol)
  near_basis = subst (λ z. x.u ≤ℤ (z +ℤ slack_of tol)) (columns_up_is s c w.columns.items to h.count h.basis h.between.flashing.kept.columns) h.choice.near.of_basis

  near_scan : IsNearScan s c tol x.u
  near_scan k l = below x.u (energy_at rivals 0) (one_phase_up s c (scan_packing k)) (slack_of tol) (h.choice.near.rival 0 h.standing.some) (h.standing.scanned k l)
    where
      below : (u a b z : ℤ) → u ≤ℤ (a +ℤ z) → a ≤ℤ b → u ≤ℤ (b +ℤ z)
      below u a b z h k = omega (arith, ints, h, k)

  pub mid_room : HasRoom (mid.budget - mid.spent) (with_pivots w pivots)
  mid_room =
      let r = h.between.room in
      record {
        columns = omega (arith, r.columns, h.spent, h.budget);
        pivots = omega (arith, r.pivots, h.spent, h.budget, h.pivoted.room);
        letters = omega (arith, r.letters, h.spent, h.budget);
        rounds = omega (arith, r.rounds, h.spent, h.budget);
      }

  pub mid_counted : IsCounted mid.spent (with_pivots w pivots)
  mid_counted =
      let k = h.between.counted in
      let n : length pivots.items ≡ length w.pivots.items + length h.pivoted.own = rw h.pivoted.pushed (length-append w.pivots.items h.pivoted.own) in
      record {
        columns = omega (arith, k.columns, h.spent);
        pivots = omega (arith, n, k.pivots, h.pivoted.counted, h.spent);
        letters = omega (arith, k.letters, h.spent);
      }

  -- ---- no unit is left for a pivot
  pub after_cut : (new : Work) (plane : Plane) (low : ℤ) (enter : ℕ) → IsEntering c.n w.columns.items to enter → plane.lam ≡ plane_of c.n w.columns.items start_places →
      CutsShort plane x.u (with_pivots w pivots) new → low ≡ plain_low s plane.lam (root_region s.count) → mid.spent ≡ mid.budget →
      IsAfterRounds s c tol mid new to rivals (record { chosen = x; plane = plane; found = Spent low })
  after_cut new plane low enter wanted tangent cut is full = record {
    kept = rw cut.columns h.between.flashing.kept;
    basis = rw cut.columns h.basis;
    few = rw cut.columns (few_columns units w h.between.counted);
    choice = rw cut.columns h.choice;
    work = cut_work s c tol mid.spent (with_pivots w pivots) new to plane x.u low enter flashing wanted tangent near_scan cut is;
    found = inr (ap Spent is, full);
    over = λ z e. leaf_over s plane.lam z (root_region s.count) (let same : low ≡ z = cc in rw (← same, is) (omega (arith, ints)));
  }

  -- ---- the plane is searched
  module _ (now : Units) (new : Work) (plane : Plane) (found : Found) (optimal : IsOptimal c.n w.columns.items to) (tangent : plane.lam ≡ plane_of c.n w.columns.items to)
      (went : MakesRound (under s plane.lam (delta_of tol)) plane x.u (with_pivots w pivots) new (now.spent - mid.spent) found) (more : mid.spent ≤ now.spent) (is : IsFound (under s plane.lam (delta_of tol)) now found) where
    searched : Searched s c tol mid.spent (with_pivots w pivots) new to plane x.u (now.spent - mid.spent) found
    searched = record { count = h.count; fine = h.fine; flashing = flashing; optimal = optimal; tangent = tangent; near_scan = near_scan; near_basis = near_basis; went = went }

    units_now : now.spent ≡ mid.spent + (now.spent - mid.spent)
    units_now = omega (arith, more)

    pub after_end : (low : ℤ) → low_of found ≡ Some low → IsAfterRounds s c tol now new to rivals (record { chosen = x; plane = plane; found = found })
    after_end low ends =
        let stay = columns_stay s c tol mid.spent (with_pivots w pivots) new to plane x.u (now.spent - mid.spent) found searched low ends in
        record {
          kept = rw stay h.between.flashing.kept;
          basis = rw stay h.basis;
          few = rw stay (few_columns units w h.between.counted);
          choice = rw stay h.choice;
          work = searched_work s c tol mid.spent (with_pivots w pivots) new to plane x.u (now.spent - mid.spent) found searched low ends now.spent units_now;
          found = inl is;
          over = λ z e. over_whole s plane.lam (low_of found) z went.searched.searched.tree e went.searched.searched.low;
        }

    pub after_refuted : (kept : Column) → found ≡ Refuted kept →
        HasRoom (now.budget - now.spent) new → IsCounted now.spent new → IsBetweenRounds s c tol now new to
    after_refuted kept e room counted = record {
      flashing = flashing_on s c tol mid.spent (with_pivots w pivots) new to plane x.u (now.spent - mid.spent) found searched kept e now.spent units_now;
      room = room;
      counted = counted;
    }
