-- Before its end a place is still that of x; from its end on, it is the one found.
use Rattle.cursors.proofs.Cursors.{element-stays, piece_stays, crossfall-stays}
use Rattle.cursors.proofs.moved.Goals as goal
use Rattle.cursors.proofs.moved.Goals.{then-x-p, else-x-p, then-x-p-2, else-x-p-2}

pub returns-then-x-p-3 : goal.returns-then-x-p-3
returns-then-x-p-3 c = record {
  element = elim c.if-x-p.branch [
    | then-x-p w ↦ rw w.element-is (element-stays c.requires.element w.if-x-p.true)
    | else-x-p w ↦ rw w.element-is w.element_from-element.ensures
  ];
  profile = elim c.if-x-p-2.branch [
    | then-x-p-2 w ↦ rw w.profile-is (piece_stays c.requires.profile w.if-x-p-2.true)
    | else-x-p-2 w ↦ rw w.profile-is w.profile_from-profile.ensures
  ];
  crossfall = crossfall-stays c.requires.crossfall c.if-x-p-3.true;
}

pub returns-else-x-p-3 : goal.returns-else-x-p-3
returns-else-x-p-3 c = record {
  element = elim c.if-x-p.branch [
    | then-x-p w ↦ rw w.element-is (element-stays c.requires.element w.if-x-p.true)
    | else-x-p w ↦ rw w.element-is w.element_from-element.ensures
  ];
  profile = elim c.if-x-p-2.branch [
    | then-x-p-2 w ↦ rw w.profile-is (piece_stays c.requires.profile w.if-x-p-2.true)
    | else-x-p-2 w ↦ rw w.profile-is w.profile_from-profile.ensures
  ];
  crossfall = c.crossfall_from-crossfall.ensures;
}
