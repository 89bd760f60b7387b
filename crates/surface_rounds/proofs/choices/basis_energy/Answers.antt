use Rattle.std.proofs.Common.{◌≡◌, ℕ, ◌*◌, ◌^◌, ◌<◌, ℤ, unsigned_abs, slice_index, ap, sym, ◌∙◌, arith, to_z, of_z}
use Rattle.std.specs.Int.{w64, w128}
use Rattle.std.proofs.lemmas.Int.{ints}
use Rattle.std.proofs.lemmas.Option.{get_or_from_slice_get}
use Rattle.log_laws.proofs.Exports.{sum-none, sum-next, sum-read}
use Rattle.case_types.specs.declared.rounds.Column.{Column}
use Rattle.energy_surface.specs.Program.Bases.{no_column}
use Rattle.split_energies.proofs.Exports.{share_same}
use Rattle.surface_rounds.proofs.choices.basis_energy.Goals as goal

pub loop-k-init : goal.loop-k-init
loop-k-init c = record { whole = sym (sum-none _); small = omega arith }

-- an energy is read back as it is
up_read : (z : ℤ) → unsigned_abs z < 2 ^ 49 → to_z w128 (of_z w128 (to_z w64 (of_z w64 z))) ≡ z
up_read z h = omega (arith, ints, h)

up_of : (there got : Column) → there ≡ got → unsigned_abs there.up < 2 ^ 49 → to_z w128 (of_z w128 (to_z w64 (of_z w64 got.up))) ≡ there.up
up_of there got e h = rw (← e) (up_read there.up h)

pub loop-k-preserved : goal.loop-k-preserved
loop-k-preserved c =
    let cols = c.args.columns.now.items in
    let k = c.loop-k.k in
    let place = slice_index c.args.basis.now.at k in
    let live = c.loop-k-test.true in
    let weights = c.weights-weights.ensures in
    let small = c.loop-k.invariant.small in
    let share = c.energy_share-energy.ensures.small in
    let column = get_or_from_slice_get cols place c.get.result.now no_column c.get.ensures in
    let up = up_of _ c.get.result.now column (c.requires.ups place no_column (c.requires.basis.inside k live)) in
    let term = c.energy_share-energy.ensures.value ∙ share_same _ _ _ _ _ _ (ap (λ (w : ℕ). w * 2 ^ 20) (weights.weights k live)) weights.sum up in
    let read = sum-read (to_z w128 c.loop-k.energy-bits) c.energy_share-energy.result (omega (arith, small, live, c.args.case.now.few)) (omega (arith, share)) in
    record {
      whole = read ∙ sum-next k _ _ c.energy_share-energy.result c.loop-k.invariant.whole term;
      small = rw read (omega (arith, ints, small, share));
    }
