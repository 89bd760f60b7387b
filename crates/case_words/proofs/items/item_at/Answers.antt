use Rattle.std.proofs.Common.{◌≡◌, ◌+◌, take, drop, get_or, arith, ap, ◌∙◌, ℕ, []}
use Rattle.case_words.specs.Items.{items_of}
use Rattle.case_words.proofs.Lists.{GoesOn, goes_on, item_here}
use Rattle.case_words.proofs.items.item_at.Goals as goal

pub behind-rest-requires : goal.behind-rest-requires
behind-rest-requires c =
    let on : GoesOn c.loop-i.rest.now (drop (c.loop-i._i + 1) (items_of c.args.text.now)) =
    goes_on c.loop-i.rest.now (items_of c.args.text.now) c.loop-i._i c.loop-i.invariant (omega arith) in
    omega (arith, on.comma, c.place_of.ensures.at)

pub loop-i-preserved : goal.loop-i-preserved
loop-i-preserved c =
    let on : GoesOn c.loop-i.rest.now (drop (c.loop-i._i + 1) (items_of c.args.text.now)) =
    goes_on c.loop-i.rest.now (items_of c.args.text.now) c.loop-i._i c.loop-i.invariant (omega arith) in
    ap items_of (c.behind-rest.ensures ∙ ap (λ (n : ℕ). drop (n + 1) c.loop-i.rest.now) c.place_of.ensures.at) ∙ on.behind_it

pub returns : goal.returns
returns c =
    let end : c.loop-i._i ≡ c.args.at = omega arith in
    ap (λ (n : ℕ). take n c.loop-i.rest.now) c.place_of-2.ensures.at
    ∙ item_here c.loop-i.rest.now (items_of c.args.text.now) c.loop-i._i c.loop-i.invariant
    ∙ ap (λ (n : ℕ). get_or (items_of c.args.text.now) n []) end
