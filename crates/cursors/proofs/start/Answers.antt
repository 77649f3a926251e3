use Rattle.std.proofs.Common.{sym, arith, rules}
use Rattle.cursors.proofs.Cursors.{element-first, first-element, first-tangent, found_later}
use Rattle.cursors.proofs.start.Goals as goal

pub element_from-element-requires-clause-start_is : goal.element_from-element-requires-clause-start_is
element_from-element-requires-clause-start_is c = sym (element-first _)

pub element_from-element-requires-clause-reached : goal.element_from-element-requires-clause-reached
element_from-element-requires-clause-reached c = first-element c.alignment.ensures.guaranteed 0

pub profile_from-profile-requires : goal.profile_from-profile-requires
profile_from-profile-requires c = first-tangent c.alignment.ensures.guaranteed 0 (search rules)

pub returns : goal.returns
returns c x =
    found_later c.alignment.ensures.guaranteed (record { element = c.element_from-element.ensures; profile = c.profile_from-profile.ensures; crossfall = c.crossfall_from-crossfall.ensures }) (omega arith)
