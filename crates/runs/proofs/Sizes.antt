-- The sizes of what is lent to a run.
use Rattle.std.proofs.Common.{◌≡◌, refl, ℕ, ◌*◌, true, eq-eqb}
use Rattle.runs.specs.Recorded.{sized}

-- where they fit
pub fit-sized : (count answers size frames : ℕ) → answers ≡ count → frames ≡ count * size → sized count answers size frames ≡ true
fit-sized count answers size frames a f = rw (eq-eqb answers count a, eq-eqb frames (count * size) f)

-- any count of calls, with any size of buffer
pub sizes_fit : (count size : ℕ) → sized count count size (count * size) ≡ true
sizes_fit count size = fit-sized count count size (count * size) refl refl
