-- A list in an array that gets one more item behind the others stands at the front still.
use Rattle.std.specs.Prelude.{ℕ, suc, ◌-◌, ◌+◌, ◌<◌, ◌≡◌, List, drop, replicate, slice_set}
use Rattle.std.proofs.Common.{ap, ◌∙◌, sym, arith}
use Rattle.std.proofs.lemmas.List.{length-set, drop-set-lt, drop-drop}
use Rattle.road.specs.Held.{InFront}

one_fewer : (n count : ℕ) → count < n → n - count ≡ suc (n - (count + 1))
one_fewer n count h = omega arith

pub one_more : {A : Type 0} {n : ℕ} {d : A} {items : List A} {count : ℕ} (a : A) → count < n → InFront n d items count → InFront n d (slice_set items count a) (count + 1)
one_more {A} {n} {d} {items} {count} a h f = record {
  room = omega (arith, h);
  long = length-set items count a ∙ f.long;
  behind =
      drop-set-lt (count + 1) items count a (omega arith)
      ∙ sym (drop-drop 1 count items)
      ∙ ap (drop 1) (f.behind ∙ ap (λ (m : ℕ). replicate m d) (one_fewer n count h));
}
