-- A station more, and all stations at the end.
use Rattle.std.specs.Prelude.{ℕ, [], ◌∷◌, List}
use Rattle.std.proofs.Common.{sym, ap, ◌∙◌}
use Rattle.std.proofs.lemmas.List.{map-id}
use Rattle.std.proofs.lemmas.Iterator.{YieldsList}
use Rattle.std.proofs.lemmas.Iterator.Consumers.{YieldsList-at, YieldsList-end}
use Rattle.next_listed.specs.Search.{after, after-append}
use Rattle.next_listed.proofs.Search.add_all.Goals as goal

pub loop-station-preserved : goal.loop-station-preserved
loop-station-preserved g c =
    c.add.ensures
    ∙ ap (after (c.in-Some.station ∷ [])) c.loop-station.invariant
    ∙ sym (after-append c.loop-station.yielded (c.in-Some.station ∷ []) c.args.self.now)

pub returns : goal.returns
returns g c = λ listed given.
    let all : YieldsList g.I.Iterator.next_gives (λ x. x) c.args.stations listed = record { runs = given } in
    let met = YieldsList-end (YieldsList-at c.into_iter-station-iterator.ensures.into_iter_gives all) c.loop-station.yielded c.loop-station.station-iterator c.loop-station.yielded_by c.next.result c.next.new.self c.in-None.is c.next.ensures.steps in
    c.loop-station.invariant ∙ ap (λ (xs : List ℕ). after xs c.args.self.now) (sym (map-id c.loop-station.yielded) ∙ met.0)
