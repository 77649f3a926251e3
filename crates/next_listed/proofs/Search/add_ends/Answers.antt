-- The ends so far stay small, and the chain gives them all.
use Rattle.std.specs.Prelude.{refl, ℕ, ◌+◌, ◌*◌, ◌≤◌, [], ◌∷◌, List, length}
use Rattle.std.proofs.Common.{rules, arith, Bor}
use Rattle.std.proofs.lemmas.Iterator.{YieldsList-from_slice}
use Rattle.std.proofs.lemmas.Iterator.Consumers.{YieldsList-at, YieldsList-from_scan, YieldsList-turn}
use Rattle.std.proofs.lemmas.List.{length-append}
use Rattle.std.proofs.iter.Yields.{serves_by}
use Rattle.road.specs.declared.Element.{Element}
use Rattle.next_listed.specs.Along.{ends_from, ends-scanned, gives}
use Rattle.next_listed.proofs.Search.add_ends.Goals as goal

pub add_all-requires-clause-can : goal.add_all-requires-clause-can
add_all-requires-clause-can c =
    let road = YieldsList-at c.scan.ensures.source (YieldsList-from_slice c.args.elements.now c.iter.ensures.rest) in
    rw (c.scan.ensures.state) (
      tt,
      serves_by _ (λ (xs : List (Bor Element)) q. q.1 ≤ 4294967295 * length xs) (λ xs q x v j r. let n = length-append xs (x ∷ []) in search (rules, arith)) _ _ _ _ (omega arith)
          (λ xs t q x u y e j. let n = (YieldsList-turn road xs t y _ u x refl e).0 in search (rules, arith)),
    )

pub returns : goal.returns
returns c =
    let road = YieldsList-at c.scan.ensures.source (YieldsList-from_slice c.args.elements.now c.iter.ensures.rest) in
    let next = λ (a : ℕ) (e : Element). a + e.length in
    c.add_all.ensures (ends_from 0 c.args.elements.now) (gives (ends-scanned 0 c.args.elements.now) (YieldsList-from_scan _ next next 0 road c.scan.ensures.state c.scan.ensures.closure (λ a x r q b k. search rules)))
