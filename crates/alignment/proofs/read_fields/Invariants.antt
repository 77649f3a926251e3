-- What is still to be read of the file, from where reading stands: the items that the count still promises, and what follows the list.
use Rattle.std.proofs.Common.{◌≡◌, [], ◌+◌, ◌-◌, length}
use Rattle.road.specs.File.{element, tangent, point, fields}
use Rattle.reader.specs.Standing.{standing}
use Rattle.alignment.proofs.Onward.{Left}
use Rattle.alignment.proofs.Lists.{more}
use Rattle.alignment.proofs.Parts.{after_plan, with_tangents, with_crossfalls}
use Rattle.alignment.proofs.read_fields.Given as goal

abbrev pub invariant-loop : goal.invariant-loop
invariant-loop l = record {
  left : Left fields (standing l.fn.r) (more (λ _. element) (after_plan l.a.head) (l.elements - l.counter) l.a.plan) (standing l.r);
  long : length l.a.plan ≡ l.counter;
  no_tangent : l.a.tangents ≡ [];
  no_crossfall : l.a.crossfalls ≡ [];
}

abbrev pub invariant-loop-follow : goal.invariant-loop-follow
invariant-loop-follow l = record {
  left : Left fields (standing l.fn.r) (more tangent (with_tangents l.a.head l.a.plan l.a.start) l.follow l.a.tangents) (standing l.r);
  long : length l.a.tangents + l.follow ≡ l.tangents;
  no_crossfall : l.a.crossfalls ≡ [];
}

abbrev pub invariant-loop-2 : goal.invariant-loop-2
invariant-loop-2 l = record {
  left : Left fields (standing l.fn.r) (more (λ _. point) (with_crossfalls l.a.head l.a.plan l.a.start l.a.tangents) (l.crossfalls - l.counter) l.a.crossfalls) (standing l.r);
  long : length l.a.crossfalls ≡ l.counter;
}
