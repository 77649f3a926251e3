-- Part after part: what was read leaves the rest, and a refusal stays.
use Rattle.std.proofs.Common.{rules, refl, zero-add, length-append, arith, ◌≡◌, ◌-◌, ◌+◌, to_z, of_z, w32}
use Rattle.std.proofs.Math.Nat.{sub-zero}
use Rattle.road.specs.declared.Element.{Element}
use Rattle.road.specs.declared.Tangent.{Tangent}
use Rattle.road.specs.declared.Crossfall.{Crossfall}
use Rattle.road.specs.File.{element, tangent, point}
use Rattle.fields.specs.Onward.{gives}
use Rattle.alignment.proofs.Ends.{field_between, signed_between}
use Rattle.alignment.proofs.Onward.{ends, onward, refused_there}
use Rattle.alignment.proofs.Lists.{list_ends, item, item_refused}
use Rattle.alignment.proofs.Parts.{few, after_plan, plan_left, profile_left, with_tangents, crossfalls_left, with_crossfalls}
use Rattle.alignment.proofs.read_fields.Goals as goal

pub returns-in_err-elements : goal.returns-in_err-elements
returns-in_err-elements c = let p = refused_there _ (plan_left c.in_ok-read_head.ensures) (field_between c.new.ensures.start c.new.ensures.end c.in_err-elements.ensures) in grind arith

pub loop-init : goal.loop-init
loop-init c =
    let p = onward _ (plan_left c.in_ok-read_head.ensures) (field_between c.new.ensures.start c.new.ensures.end c.in_ok-elements.ensures) in
    rw (c.new-a.ensures, sub-zero c.in_ok-elements.elements) (record { left = p; long = refl; no_tangent = refl; no_crossfall = refl })

pub returns-in_err-read_element : goal.returns-in_err-read_element
returns-in_err-read_element c =
    let l = c.loop in
    let p = item_refused (λ _. element) (after_plan l.a.head) l.a.plan (c.in_ok-elements.elements - (l.counter + 1)) (omega arith) l.invariant.left c.in_err-read_element.ensures in
    grind arith

pub push_element-requires : goal.push_element-requires
push_element-requires c = let most = few 1 200 (field_between c.new.ensures.start c.new.ensures.end c.in_ok-elements.ensures) in omega arith

pub loop-preserved : goal.loop-preserved
loop-preserved c =
    let l = c.loop in
    let p = item (λ _. element) (after_plan l.a.head) l.a.plan (c.in_ok-elements.elements - (l.counter + 1)) (omega arith) l.invariant.left c.in_ok-read_element.ensures in
    rw c.push_element.ensures (record { left = p; long = omega (arith, length-append {A = Element}); no_tangent = l.invariant.no_tangent; no_crossfall = l.invariant.no_crossfall })

pub returns-in_err-read_signed : goal.returns-in_err-read_signed
returns-in_err-read_signed c =
    let l = c.loop in
    let p = refused_there _ (profile_left l.a.head l.a.plan (omega arith) l.invariant.left) (signed_between c.new-2.ensures.start c.new-2.ensures.end c.in_err-read_signed.ensures) in
    grind arith

pub returns-in_err-tangents : goal.returns-in_err-tangents
returns-in_err-tangents c =
    let l = c.loop in
    let q = onward _ (profile_left l.a.head l.a.plan (omega arith) l.invariant.left) (signed_between c.new-2.ensures.start c.new-2.ensures.end c.in_ok-read_signed.ensures) in
    let p = refused_there _ q (field_between c.new-3.ensures.start c.new-3.ensures.end c.in_err-tangents.ensures) in
    grind arith

pub loop-follow-init : goal.loop-follow-init
loop-follow-init c =
    let l = c.loop in
    let q = onward _ (profile_left l.a.head l.a.plan (omega arith) l.invariant.left) (signed_between c.new-2.ensures.start c.new-2.ensures.end c.in_ok-read_signed.ensures) in
    let p = onward _ q (field_between c.new-3.ensures.start c.new-3.ensures.end c.in_ok-tangents.ensures) in
    let same : to_z w32 (of_z w32 c.in_ok-read_signed.field-0) ≡ c.in_ok-read_signed.field-0 = search rules in
    rw (c.set_start.ensures, l.invariant.no_tangent, same) (record { left = p; long = zero-add c.in_ok-tangents.tangents; no_crossfall = l.invariant.no_crossfall })

pub returns-in_err-read_tangent : goal.returns-in_err-read_tangent
returns-in_err-read_tangent c =
    let l = c.loop-follow in
    let p = item_refused tangent (with_tangents l.a.head l.a.plan l.a.start) l.a.tangents (l.follow - 1) (omega arith) l.invariant.left c.in_err-read_tangent.ensures in
    grind arith

pub push_tangent-requires : goal.push_tangent-requires
push_tangent-requires c = let most = few 1 100 (field_between c.new-3.ensures.start c.new-3.ensures.end c.in_ok-tangents.ensures) in omega arith

pub loop-follow-preserved : goal.loop-follow-preserved
loop-follow-preserved c =
    let l = c.loop-follow in
    let p = item tangent (with_tangents l.a.head l.a.plan l.a.start) l.a.tangents (l.follow - 1) (omega arith) l.invariant.left c.in_ok-read_tangent.ensures in
    rw c.push_tangent.ensures (record { left = p; long = omega (arith, length-append {A = Tangent}); no_crossfall = l.invariant.no_crossfall })

pub returns-in_err-crossfalls : goal.returns-in_err-crossfalls
returns-in_err-crossfalls c =
    let l = c.loop-follow in
    let q = crossfalls_left l.a.head l.a.plan l.a.start l.a.tangents (omega arith) l.invariant.left in
    let p = refused_there _ q (field_between c.new-4.ensures.start c.new-4.ensures.end c.in_err-crossfalls.ensures) in
    grind arith

pub loop-2-init : goal.loop-2-init
loop-2-init c =
    let l = c.loop-follow in
    let q = crossfalls_left l.a.head l.a.plan l.a.start l.a.tangents (omega arith) l.invariant.left in
    let p = onward _ q (field_between c.new-4.ensures.start c.new-4.ensures.end c.in_ok-crossfalls.ensures) in
    rw (l.invariant.no_crossfall, sub-zero c.in_ok-crossfalls.crossfalls) (record { left = p; long = refl })

pub returns-in_err-read_crossfall : goal.returns-in_err-read_crossfall
returns-in_err-read_crossfall c =
    let l = c.loop-2 in
    let p = item_refused (λ _. point) (with_crossfalls l.a.head l.a.plan l.a.start l.a.tangents) l.a.crossfalls (c.in_ok-crossfalls.crossfalls - (l.counter + 1)) (omega arith) l.invariant.left c.in_err-read_crossfall.ensures in
    grind arith

pub push_crossfall-requires : goal.push_crossfall-requires
push_crossfall-requires c = let most = few 2 200 (field_between c.new-4.ensures.start c.new-4.ensures.end c.in_ok-crossfalls.ensures) in omega arith

pub loop-2-preserved : goal.loop-2-preserved
loop-2-preserved c =
    let l = c.loop-2 in
    let p = item (λ _. point) (with_crossfalls l.a.head l.a.plan l.a.start l.a.tangents) l.a.crossfalls (c.in_ok-crossfalls.crossfalls - (l.counter + 1)) (omega arith) l.invariant.left c.in_ok-read_crossfall.ensures in
    rw c.push_crossfall.ensures (record { left = p; long = omega (arith, length-append {A = Crossfall}) })

pub returns : goal.returns
returns c =
    let l = c.loop-2 in
    ends (list_ends (λ _. point) (with_crossfalls l.a.head l.a.plan l.a.start l.a.tangents) l.a.crossfalls (omega arith) l.invariant.left) gives
