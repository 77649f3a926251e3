-- A list that is walked part by part ends: each part goes on nearer to its end.
use Rattle.std.specs.Prelude.{◌≡◌, refl, ℕ, suc, ◌-◌, ◌≤◌, ◌<◌, Option, None, Some}
use Rattle.std.proofs.Common.{arith}
use Rattle.road.specs.File.{Road}
use Rattle.laws_of_acceptance.specs.Guaranteed.{Guaranteed}
use Rattle.walk.specs.FittingRows.{chunk, onward, answer}
use Rattle.walk.specs.Inside.{listed-inside}
use Rattle.walk.specs.AllChunks.{onward-beyond}
use Rattle.walk.proofs.AllChunksLaws.{onward-listed}

-- how many stations may be to come: no road is longer than 100,000,000
abbrev pub to_come : Option ℕ → ℕ
to_come (Some s) = suc (100000001 - s)
to_come None = 0

-- with room for a row
pub nearer : {r : Road} → Guaranteed r → (s room : ℕ) → 96 ≤ room → to_come (answer (chunk r s room)).next < to_come (Some s)
nearer {r} G s room h = go (onward (chunk r s room).remaining) refl
  where
    go : (o : Option ℕ) → onward (chunk r s room).remaining ≡ o → to_come o < to_come (Some s)
    go (Some t) e =
        let T = G.whole.high in
        omega (arith, onward-beyond G s room t e h, listed-inside G (onward-listed G s room t e))
    go None e = omega arith
