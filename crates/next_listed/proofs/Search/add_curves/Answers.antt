-- The ends of the curve at each tangent's end, flattened.
use Rattle.std.specs.Prelude.{refl, ℕ, ◌+◌, ◌*◌, ◌≤◌, [], ◌∷◌, ◌-◌, List, length}
use Rattle.std.proofs.lemmas.Iterator.Adapters.{YieldsList-from_flatten}
use Rattle.std.proofs.Common.{rules, arith, Bor}
use Rattle.std.proofs.lemmas.Iterator.{YieldsList-from_slice}
use Rattle.std.proofs.lemmas.Iterator.Consumers.{YieldsList-at, YieldsList-from_scan, YieldsList-turn}
use Rattle.std.proofs.lemmas.List.{length-append}
use Rattle.std.proofs.iter.Yields.{serves_by}
use Rattle.road.specs.declared.Tangent.{Tangent}
use Rattle.next_listed.specs.Along.{curves_from, curves-scanned, gives, shows, two_fit}
use Rattle.next_listed.proofs.Search.add_curves.Goals as goal

pub add_all-requires-clause-can : goal.add_all-requires-clause-can
add_all-requires-clause-can c =
    let road = YieldsList-at c.scan-curves.ensures.source (YieldsList-from_slice c.args.tangents.now c.iter.ensures.rest) in (
      (
        (λ d. rw (c.flatten.ensures.source, c.scan-curves.ensures.state) (
          (
            tt,
            serves_by _ (λ (xs : List (Bor Tangent)) q. q.1 ≤ 4294967295 * length xs) (λ xs q x v j r. let n = length-append xs (x ∷ []) in search (rules, arith)) _ _ _ _ (omega arith)
                (λ xs t q x u y e j. let n = (YieldsList-turn road xs t y _ u x refl e).0 in search (rules, arith)),
          ),
          record { at = λ xs t q x u y k e j b. (tt, tt, two_fit _ b.1) },
        )),
        tt,
        λ x e. (tt, tt),
      ),
      λ x e. (tt, tt),
    )

pub returns : goal.returns
returns c =
    let road = YieldsList-at c.scan-curves.ensures.source (YieldsList-from_slice c.args.tangents.now c.iter.ensures.rest) in
    let next = λ (a : ℕ) (t : Tangent). a + t.length in
    let both = λ (a : ℕ) (t : Tangent). (a + t.length - t.half) ∷ (a + t.length + t.half) ∷ [] in
    c.add_all.ensures (curves_from 0 c.args.tangents.now) (gives (curves-scanned 0 c.args.tangents.now)
    (YieldsList-from_flatten _ _ (λ y. y) (λ y. y) (λ x j b. shows _ _ (λ s t h. h.0) (λ s x t h. h) j b.0) (YieldsList-at c.flatten.ensures.source (YieldsList-from_scan _ next both 0 road c.scan-curves.ensures.state c.scan-curves.ensures.closure (λ a x r q b k. search rules))) c.flatten.ensures.front c.flatten.ensures.back c.flatten.ensures.done))
