-- The element stays at or before x; the loop ends where the next one begins beyond it.
use Rattle.std.proofs.Common.{◌≡◌, ap, ap₂, ◌∙◌, suc, List, length, ◌+◌, ◌-◌, get_or, take, arith, rules, add-one}
use Rattle.std.specs.Prelude.{Option}
use Rattle.std.specs.Option.{unwrap_or}
use Rattle.std.proofs.lemmas.Option.{unwrap_or-slice_get}
use Rattle.road.specs.File.{Road}
use Rattle.road.specs.Exact.{blank_element, element_of}
use Rattle.road.specs.Rules.{element_before}
use Rattle.road.specs.declared.Element.{Element}
use Rattle.segment_parts.specs.Ends.{curvature_of}
use Rattle.cursors.proofs.Cursors.{element-more, element_found, before-item}
use Rattle.cursors.proofs.element_from.Goals as goal

pub loop-i-preserved : goal.loop-i-preserved
loop-i-preserved c =
    let list = c.elements-elements.ensures.items ∙ ap (λ (r : Road). r.plan) c.alignment.ensures.road in
    rw c.from-begin.ensures (element-more c.loop-i.invariant (let n = ap (length {A = Element}) list in omega arith) (rw c.from.ensures at c.if-begin-from.true) (ap (λ (l : List Element). get_or l (c.loop-i.i + 1) blank_element) list))

pub returns : goal.returns
returns c =
    let i = c.loop-i.i in
    let r = c.args.road.now in
    let list = c.elements-elements.ensures.items ∙ ap (λ (r : Road). r.plan) c.alignment.ensures.road in
    let before : c.unwrap_or-before.result ≡ element_before r i =
    c.unwrap_or-before.ensures ∙ ap (λ (o : Option Element). unwrap_or o blank_element) (c.copied.ensures ∙ c.last.ensures.value) ∙ unwrap_or-slice_get (take i c.elements-elements.result.now) _ blank_element
    ∙ ap (λ (l : List Element). get_or (take i l) (length (take i l) - 1) blank_element) list ∙ before-item r i c.loop-i.invariant.at.within in
    let after : c.unwrap_or-after.result ≡ element_of r (suc i) =
    c.unwrap_or-after.ensures ∙ ap (λ (o : Option Element). unwrap_or o blank_element) c.copied-2.ensures ∙ c.get.ensures.lookup.4 (omega arith) blank_element
    ∙ ap (λ (l : List Element). get_or l (i + 1) blank_element) list ∙ ap (element_of r) (add-one i) in
    rw c.from-2.ensures (element_found c.loop-i.invariant (λ u. search rules)
    (c.curvature_of-curvature.ensures
    ∙ ap₂ (λ (x y : Element). curvature_of x c.loop-i.e y) before after
    ∙ ap (λ (e : Element). curvature_of (element_before r i) e (element_of r (suc i))) c.loop-i.invariant.item))
