use Rattle.std.proofs.Common.{pos, ◌<ℤ◌, ◌≤ℤ◌, sym, ◌∙◌, arith}
use Rattle.std.proofs.lemmas.Int.{ints}
use Rattle.exact_lp.specs.Frames.{along}
use Rattle.exact_lp.proofs.MinorRows.{signed_down, signed_up}
use Rattle.exact_lp.proofs.frames.directed.Goals as goal

pub opposite-requires : goal.opposite-requires
opposite-requires c = record { small = c.requires.small }

pub returns-then-determinant-lt0-clause-signed : goal.returns-then-determinant-lt0-clause-signed
returns-then-determinant-lt0-clause-signed c =
    let less : c.args.determinant <ℤ pos 0 = grind (arith, ints) in
    λ x. c.opposite.ensures.turned x ∙ sym (signed_down c.args.determinant (along c.args.row.now.a x) less)

pub returns-then-determinant-lt0-clause-small : goal.returns-then-determinant-lt0-clause-small
returns-then-determinant-lt0-clause-small c = c.opposite.ensures.small

pub returns-else-determinant-lt0-clause-signed : goal.returns-else-determinant-lt0-clause-signed
returns-else-determinant-lt0-clause-signed c =
    let more : pos 0 ≤ℤ c.args.determinant = grind (arith, ints) in
    λ x. sym (signed_up c.args.determinant (along c.args.row.now.a x) more)

pub returns-else-determinant-lt0-clause-small : goal.returns-else-determinant-lt0-clause-small
returns-else-determinant-lt0-clause-small c = c.requires.small
