use Rattle.std.proofs.Common.{◌≡◌, ◌∙◌, ◌⊎◌, ◌%◌, inl, inr, arith}
use Rattle.std.proofs.Math.Nat.{mod-lt}
use Rattle.log_laws.proofs.Quotients.{differ, rest, none, turned}
use Rattle.log_laws.proofs.compare.+quotient_cmp.Goals as goal

pub returns-then-first-second : goal.returns-then-first-second
returns-then-first-second t c = c.cmp.ensures ∙ differ c.args.n c.args.d c.args.m c.args.e c.requires.left c.requires.right c.if-first-second.true

pub returns-then-left-eq0 : goal.returns-then-left-eq0
returns-then-left-eq0 t c =
    let zero : (c.args.n % c.args.d ≡ 0) ⊎ (c.args.m % c.args.e ≡ 0) = elim c.then-left-eq0.either [ inl a ↦ inl a | inr b ↦ inr b.1 ] in
    c.cmp-then-left-eq0.ensures
    ∙ none (c.args.n % c.args.d) (c.args.m % c.args.e) c.args.d c.args.e c.requires.left c.requires.right zero
    ∙ rest c.args.n c.args.d c.args.m c.args.e c.if-first-second.false

pub quotient_cmp-requires : goal.quotient_cmp-requires
quotient_cmp-requires t c =
    let a = mod-lt c.args.n c.requires.left in
    let b = mod-lt c.args.m c.requires.right in
    omega (arith, a, b, c.decreases)

pub returns : goal.returns
returns t c =
    c.quotient_cmp.ensures
    ∙ turned (c.args.n % c.args.d) (c.args.m % c.args.e) c.args.d c.args.e
    ∙ rest c.args.n c.args.d c.args.m c.args.e c.if-first-second.false
