use Rattle.std.proofs.Common.{◌≡◌, true, ◌∙◌, ap, sym, arith}
use Rattle.std.specs.Prelude.{nat_lt}
use Rattle.std.proofs.lemmas.Bool.Decides.{nat_tests}
use Rattle.std.proofs.lemmas.Option.{get_or_from_slice_get}
use Rattle.case_types.specs.declared.rounds.Column.{Column}
use Rattle.energy_surface.specs.Program.Bases.{no_column}
use Rattle.exact_lp.specs.Frames.{live_parts}
use Rattle.exact_lp.proofs.points.row.Goals as goal

pub returns-then-k-n : goal.returns-then-k-n
returns-then-k-n c =
    let less : nat_lt c.args.k c.args.n ≡ true = grind (arith, nat_tests) in
    let e = get_or_from_slice_get c.args.columns.now.items _ c.get.result.now no_column c.get.ensures in
    rw less (c.live_point.ensures ∙ ap (λ (v : Column). live_parts c.args.n v.comp) (sym e))
