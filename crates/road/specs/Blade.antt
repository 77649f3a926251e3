-- Document 01, "The blade over a whole run": the blade between two stations of a road, and its bound.
use Rattle.std.specs.Prelude.{ℕ, ◌*◌, ◌-◌, ◌<◌, ◌&&◌, ℤ, pos, ◌-ℤ◌, ◌*ℤ◌, Option, None, Some}
use mathlib.Core.List.{Memᴰ}
use Rattle.road.specs.Base.{first_that}
use Rattle.integers.specs.Fraction.{Frac, ◌÷◌, whole, ◌+ᶠ◌, ◌×ᶠ◌, size}
use Rattle.road.specs.File.{Road}
use Rattle.road.specs.Exact.{from◌to◌, in_curve, vertex_count, half_length, grade_change}
use Rattle.road.specs.Listed.{listed}

-- "neighbouring where their stations a < b have no listed station strictly between them"
pub record Neighbouring (r : Road) (a b : ℕ) : Type 0 where
  pub before : a < b
  pub free : (x : ℕ) → Memᴰ x (listed r) → a < x → x < b → ⊥

-- "The blade at x from a to b is p + (q − p) × (x − a) / (b − a)"
unfoldable pub blade : (p q : ℤ) (a b x : ℕ) → Frac
blade p q a b x = whole p +ᶠ ((q -ℤ p) *ℤ (from a to x)) ÷ (b - a)

-- "The rows lie in one vertical curve where both are at most h from its vertex"
unfoldable pub one_curve : Road → (a b : ℕ) → Option ℕ
one_curve r a b = first_that (λ i. in_curve r a i && in_curve r b i) (vertex_count r)

-- d² × |change of grade| / (8 × curve length); "its length is 2h, its change of grade (g2 − g1) / 10⁶"
abbrev pub sagitta : Road → (d : ℕ) → Option ℕ → Frac
sagitta r d None = whole (pos 0)
sagitta r d (Some i) = whole (pos (d * d)) ×ᶠ size (grade_change r i ÷ 1_000_000) ×ᶠ (pos 1 ÷ (8 * (2 * half_length r i)))

-- 1 mm, and the curve's share
unfoldable pub bound : Road → (a b : ℕ) → Frac
bound r a b = whole (pos 1) +ᶠ sagitta r (b - a) (one_curve r a b)
