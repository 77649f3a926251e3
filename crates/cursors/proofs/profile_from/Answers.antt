-- No curve follows the last tangent, so what stands for the next one there does not matter.
use Rattle.std.proofs.Common.{◌≡◌, ap, ◌∙◌, List, length, suc, ◌+◌, get_or, arith, rules, add-one}
use Rattle.std.specs.Prelude.{Option}
use Rattle.std.specs.Option.{unwrap_or}
use Rattle.road.specs.File.{Road}
use Rattle.road.specs.Exact.{blank_tangent, tangent_of}
use Rattle.road.specs.declared.Tangent.{Tangent}
use Rattle.segment_parts.specs.Tangents.{sized}
use Rattle.segment_parts.specs.Found.{piece_found}
use Rattle.cursors.proofs.Cursors.{tangent-more, tangent_found}
use Rattle.cursors.proofs.profile_from.Goals as goal

pub of-requires : goal.of-requires
of-requires c = let g = c.loop-tangent.invariant in sized c.alignment.ensures.guaranteed c.loop-tangent.t g.reached.placed g.item g.reached.at.within

pub loop-tangent-preserved : goal.loop-tangent-preserved
loop-tangent-preserved c =
    let list = c.tangents-tangents.ensures.items ∙ ap (λ (r : Road). r.tangents) c.alignment.ensures.road in
    tangent-more c.loop-tangent.invariant (rw (c.of.ensures.place, c.of.ensures.tangent) at c.next-tangent.ensures) (let n = ap (length {A = Tangent}) list in omega arith) (rw c.from.ensures at c.if-tangent-from.true)
    (ap (λ (l : List Tangent). get_or l c.next-tangent.result.index blank_tangent) list)

pub of-requires-2 : goal.of-requires-2
of-requires-2 c = let g = c.loop-tangent.invariant in sized c.alignment.ensures.guaranteed c.loop-tangent.t g.reached.placed g.item g.reached.at.within

pub returns : goal.returns
returns c =
    let g = c.loop-tangent.invariant in
    let list = c.tangents-tangents.ensures.items ∙ ap (λ (r : Road). r.tangents) c.alignment.ensures.road in
    let next : c.unwrap_or-next.result ≡ tangent_of c.args.road.now (suc c.loop-tangent.tangent.index) =
    c.unwrap_or-next.ensures ∙ ap (λ (o : Option Tangent). unwrap_or o blank_tangent) c.copied.ensures ∙ c.get.ensures.lookup.4 (omega arith) blank_tangent
    ∙ ap (λ (l : List Tangent). get_or l (c.loop-tangent.tangent.index + 1) blank_tangent) list ∙ ap (tangent_of c.args.road.now) (add-one c.loop-tangent.tangent.index) in
    record { tangent = g.reached; piece = piece_found c.alignment.ensures.guaranteed c.loop-tangent.t (tangent_found g (λ u. search rules)) g.item (λ _. next) (rw (c.of-2.ensures.place, c.of-2.ensures.tangent) at c.piece-piece.ensures) }
