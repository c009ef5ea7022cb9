use Rattle.front_end.proofs.OnePlace.{one_of_bounds, one_of_names, one_of_tags}
use Rattle.front_end.proofs.OneReport.{one_of_defaults, one_of_values}
use Rattle.front_end.proofs.law.one_place.Goals as goal

pub returns-clause-tags : goal.returns-clause-tags
returns-clause-tags c = one_of_tags c.one_fault.ensures.spot

pub returns-clause-constraints : goal.returns-clause-constraints
returns-clause-constraints c =
    one_of_bounds c.linked.ensures.meaning c.linked.ensures.whole c.one_fault-2.ensures

pub returns-clause-additions : goal.returns-clause-additions
returns-clause-additions c = λ w e f h k. c.one_fault-3.ensures w e f h.2.1 k.2.1

pub returns-clause-names : goal.returns-clause-names
returns-clause-names c = one_of_names c.one_link_fault.ensures

pub returns-clause-defaults : goal.returns-clause-defaults
returns-clause-defaults c = one_of_defaults c.one_place.ensures.in_default

pub returns-clause-assigned : goal.returns-clause-assigned
returns-clause-assigned c = one_of_values c.one_place.ensures.in_assigned
