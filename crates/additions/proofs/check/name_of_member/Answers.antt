use Rattle.type_table.specs.declared.table.ListMember.{ListMember}
use Rattle.additions.proofs.Placing.{at_index}
use Rattle.additions.proofs.check.name_of_member.Goals as goal

pub returns : goal.returns
returns c = at_index (λ (m : ListMember). m.name.at) c.args.components.now c.args.number c.index-components-number.result c.requires c.index-components-number.is
