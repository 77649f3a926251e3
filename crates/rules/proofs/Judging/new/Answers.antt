-- The pass over the elements has tried all their rules, at the place behind the last one too.
use Rattle.std.specs.Prelude.{◌≡◌, ◌+◌, length}
use Rattle.std.proofs.Common.{sym, ◌∙◌, rules, arith}
use Rattle.std.proofs.lemmas.Bool.{not-true}
use Rattle.std.proofs.lemmas.Iterator.Consumers.{YieldsList-from_first}
use Rattle.std.proofs.lemmas.Iterator.Search.{any_from_yields_List}
use Rattle.std.specs.List.{list_any}
use Rattle.road.specs.Rules.{element_among}
use Rattle.road.specs.declared.ElementAmong.{ElementAmong}
use Rattle.item_rules.specs.Any.{any_broken, none-broken}
use Rattle.rules.specs.Places.{few_elements}
use Rattle.rules.specs.Walks.{elements_left, items_at, none-passes}
use Rattle.rules.proofs.Judging.new.Goals as goal

pub invariant_of-result : goal.invariant_of-result
invariant_of-result c =
    let r = c.args.alignment.now in
    let l = c.args.limits.now in
    let all = YieldsList-from_first {A = ElementAmong} (λ x. x) elements_left {s = c.new.result} (items_at (element_among r) (length r.plan + 1)) c.new.ensures in
    record {
      whole_is_total = c.total.ensures;
      kept = λ e x i h.
          let any : c.any-plan_kept.result ≡ list_any (any_broken l) (items_at (element_among r) (length r.plan + 1)) = any_from_yields_List (any_broken l) c.any-plan_kept.new.self _ _ c.any-plan_kept.ensures.ran all (λ m b q k. search rules) in
          none-broken l (element_among r i) (none-passes (element_among r) (any_broken l) (sym any ∙ not-true c.any-plan_kept.result e) i (omega (arith, few_elements x (length r.plan)))) x;
    }
