use Rattle.std.proofs.Common.{map, subst, sym}
use Rattle.asn_base.specs.Seen.{alternative_of, component_of}
use Rattle.asn_base.specs.Types as types
use Rattle.type_table.specs.Seen.{part_of}
use Rattle.type_table.specs.Table.{members}
use Rattle.extensions.specs.proving.Cores.{IsCoreOf}
use Rattle.extensions.proofs.Parts.{sequence_core, set_core, choice_core}
use Rattle.extensions.proofs.members.list_core.Goals as goal

pub returns-in-Ok : goal.returns-in-Ok
returns-in-Ok c p i M d =
    let cs = map part_of c.args.parts.now in
    let ds = map component_of c.in-Ok.components.items in
    subst (λ k. IsCoreOf p i M (members k c.args.marker cs) (types.a_sequence c.args.marker ds)) (sym c.in-Sequence.is)
    (sequence_core p i M c.args.marker cs ds (c.in-Ok.ensures p M d))

pub returns-in-Ok-components : goal.returns-in-Ok-components
returns-in-Ok-components c p i M d =
    let cs = map part_of c.args.parts.now in
    let ds = map component_of c.in-Ok-components.components.items in
    subst (λ k. IsCoreOf p i M (members k c.args.marker cs) (types.a_set c.args.marker ds)) (sym c.in-Set.is)
    (set_core p i M c.args.marker cs ds (c.in-Ok-components.ensures p M d))

pub returns-in-Ok-alternatives : goal.returns-in-Ok-alternatives
returns-in-Ok-alternatives c p i M d =
    let cs = map part_of c.args.parts.now in
    let a = c.in-Ok-alternatives.alternatives in
    let root = map alternative_of a.root.items in
    let more = map alternative_of a.additions.items in
    subst (λ k. IsCoreOf p i M (members k c.args.marker cs) (types.a_choice root a.extensible more)) (sym c.in-Choice.is)
    (choice_core p i M c.args.marker a.extensible cs root more c.in-Ok-alternatives.ensures.marker c.in-Ok-alternatives.ensures.parts)
