use Rattle.std.proofs.Common.{map}
use Rattle.type_table.specs.Seen.{part_of}
use Rattle.type_table.specs.Table.{Part, members}
use Rattle.type_table.proofs.ListFaults.{kind_repeated}
use Rattle.std.proofs.Common.{inr, refl}
use Rattle.type_table.specs.FirstInList.{HasFewMembers, member_places, members_named}
use Rattle.type_table.proofs.FirstFaults.{second_such}
use Rattle.type_table.proofs.lists.list_members.Goals as goal

pub returns-in-Err-clause-fault : goal.returns-in-Err-clause-fault
returns-in-Err-clause-fault c = c.in-Err.ensures.fault

pub returns-in-Err-member_names-clause-fault : goal.returns-in-Err-member_names-clause-fault
returns-in-Err-member_names-clause-fault c = λ l m.
    kind_repeated c.args.within.now c.args.assigns.now (members l m (map part_of c.args.given.now)) (map (λ (p : Part). p.name) (map part_of c.args.given.now)) c.in-Err-member_names.fault (λ y t. t) c.in-Err-member_names.ensures.fault

pub returns-in-Err-member_names-clause-first : goal.returns-in-Err-member_names-clause-first
returns-in-Err-member_names-clause-first c =
    let gs = c.args.given.now in
    inr (second_such c.args.within.now (member_places gs) (member_places gs) (members_named gs) (members_named gs) (λ i. Unit {0}) (λ i. HasFewMembers gs) c.in-Err-member_names.fault refl refl (λ i u. (c.in-Ok.ensures.root, c.in-Ok.ensures.more)) c.in-Err-member_names.ensures.first)
