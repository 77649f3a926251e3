-- The chain gives the items of the places that the rule looks at.
use Rattle.std.specs.Prelude.{position}
use Rattle.std.proofs.Common.{rules, ◌∙◌, ap}
use Rattle.std.proofs.lemmas.Iterator.{YieldsList, YieldsList-from_take}
use Rattle.std.proofs.lemmas.Iterator.Consumers.{YieldsList-at}
use Rattle.std.proofs.lemmas.Iterator.Search.{position_from_yields_List}
use Rattle.rules.specs.Walks.{items_at, take-items, first-position}
use Rattle.rules.proofs.first_broken.Goals as goal

pub returns : goal.returns
returns g c = λ item n h few.
    let test = λ (x : g.row.R-Item.Denot). (g.R.ItemRule.test c.args.rule).broken c.args.l.now x in
    let all : YieldsList g.W.Iterator.next_gives (λ x. x) c.args.items (items_at item n) = record { runs = h } in
    let found = position_from_yields_List test _ _ _ c.position.ensures.ran (YieldsList-from_take c.places.result (YieldsList-at c.take.ensures.source all) c.take.ensures.count) (λ x b q k. search rules) in
    rw c.places.ensures.places at found ∙ ap (position test) (take-items item few) ∙ first-position item test ((g.R.ItemRule.test c.args.rule).places c.args.count)
