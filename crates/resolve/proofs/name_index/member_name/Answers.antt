use Rattle.std.proofs.Common.{ap, sym, ◌∙◌, arith, Some}
use Rattle.trees.specs.Values.{name_at}
use Rattle.type_table.specs.Seen.{part_of}
use Rattle.type_table.specs.Table.{Part}
use Rattle.type_table.specs.declared.table.ListMember.{ListMember}
use Rattle.resolve.proofs.ListedNames.{name_here, no_name}
use Rattle.resolve.proofs.name_index.member_name.Goals as goal

pub returns-then-place-members : goal.returns-then-place-members
returns-then-place-members c =
    let r = c.index-members-place.result in
    ap Some c.as_str.ensures.value ∙ ap (λ (z : ListMember). Some (name_at z.name)) (sym c.index-members-place.is)
    ∙ sym (name_here part_of (λ (p : Part). p.name) c.args.members.now c.args.place r (omega (arith, c.if-place-members.true)) c.index-members-place.is)

pub returns-else-place-members : goal.returns-else-place-members
returns-else-place-members c =
    sym (no_name part_of (λ (p : Part). p.name) c.args.members.now c.args.place (omega (arith, c.if-place-members.false)))
