-- Document 01, "The file": "An alignment is held as three lists with their counts." The lists stand at the front of the arrays.
use Rattle.std.specs.Prelude.{ℕ, ◌-◌, ◌≤◌, ◌≡◌, List, ◌++◌, length, take, drop, replicate}
use Rattle.std.proofs.Common.{ap, ◌∙◌, sym, arith}
use Rattle.std.proofs.lemmas.List.{take-append-drop, length-take-le}
use Rattle.road.specs.File.{Road}
use Rattle.road.specs.Exact.{blank_element, blank_tangent, blank_crossfall}
use Rattle.road.specs.declared.alignment.Alignment.TheInside.{Inside}

-- a list in an array of n places, whose other places hold d
unfoldable pub padded : {A : Type 0} → ℕ → A → List A → List A
padded n d xs = xs ++ replicate (n - length xs) d

-- the alignment that holds a road
unfoldable pub held : Road → Inside
held r = record {
  head = r.head;
  elements = padded 200 blank_element r.plan;
  element_count = length r.plan;
  start = r.start;
  tangents = padded 100 blank_tangent r.tangents;
  tangent_count = length r.tangents;
  crossfalls = padded 200 blank_crossfall r.crossfalls;
  crossfall_count = length r.crossfalls;
}

-- the road that an alignment holds: the first items of its arrays, as many as its counts say
abbrev pub road_in : Inside → Road
road_in a = record {
  head = a.head;
  plan = take a.element_count a.elements;
  start = a.start;
  tangents = take a.tangent_count a.tangents;
  crossfalls = take a.crossfall_count a.crossfalls;
}

-- counts that the arrays have places for
pub record Counted (a : Inside) : Type 0 where
  pub plan : a.element_count ≤ 200
  pub profile : a.tangent_count ≤ 100
  pub points : a.crossfall_count ≤ 200

-- a list stands at the front of an array of n places, as many items as a count says, and d in the places behind it
pub record InFront {A : Type 0} (n : ℕ) (d : A) (items : List A) (count : ℕ) : Type 0 where
  pub room : count ≤ n
  pub long : length items ≡ n
  pub behind : drop count items ≡ replicate (n - count) d

-- the three lists stand at the front of their arrays, and blank items behind them
pub record Filled (a : Inside) : Type 0 where
  pub plan : InFront 200 blank_element a.elements a.element_count
  pub profile : InFront 100 blank_tangent a.tangents a.tangent_count
  pub points : InFront 200 blank_crossfall a.crossfalls a.crossfall_count

module _ {A : Type 0} {n : ℕ} {d : A} {items : List A} {count : ℕ} (f : InFront n d items count) where
  pub front-long : length (take count items) ≡ count
  front-long = length-take-le count items (omega (arith, f.room, f.long))

  front_padded : padded n d (take count items) ≡ items
  unfolding padded
  front_padded =
      ap (λ (m : ℕ). take count items ++ replicate (n - m) d) front-long
      ∙ ap (λ (l : List A). take count items ++ l) (sym f.behind)
      ∙ take-append-drop count items

pub filled-counted : (a : Inside) → Filled a → Counted a
filled-counted a f = record { plan = f.plan.room; profile = f.profile.room; points = f.points.room }

-- an alignment is the one that holds its road
pub held-back : (a : Inside) → Filled a → held (road_in a) ≡ a
unfolding held
held-back a f = λ i. record {
  head = a.head;
  elements = front_padded f.plan i;
  element_count = front-long f.plan i;
  start = a.start;
  tangents = front_padded f.profile i;
  tangent_count = front-long f.profile i;
  crossfalls = front_padded f.points i;
  crossfall_count = front-long f.points i;
}
