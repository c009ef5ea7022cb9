use Rattle.std.proofs.Common.{subst, sym}
use Rattle.asn_base.specs.Seen.{constraint_of}
use Rattle.asn_base.specs.Types as types
use Rattle.range_ends.specs.Ends.{IsTypeOfKind}
use Rattle.type_table.specs.Table.{elements}
use Rattle.extensions.specs.proving.Cores.{IsCoreOf}
use Rattle.extensions.proofs.CoreKinds.{sequence_of_core, set_of_core}
use Rattle.extensions.proofs.types.elements_core.Goals as goal

pub returns-in-SequenceOf : goal.returns-in-SequenceOf
returns-in-SequenceOf c M =
    let p = c.args.bounded.now.program in
    let i = c.args.ty.index in
    let j = c.args.element in
    let is = subst (λ k. IsTypeOfKind p.types i (elements k j)) c.in-SequenceOf.is c.requires.is in
    subst (λ k. IsCoreOf p i M (elements k j) (types.a_sequence_of (constraint_of c.in-Ok.size) j)) (sym c.in-SequenceOf.is)
    (sequence_of_core p i M j (constraint_of c.in-Ok.size) is (c.in-Ok.ensures _ is))

pub returns-in-SetOf : goal.returns-in-SetOf
returns-in-SetOf c M =
    let p = c.args.bounded.now.program in
    let i = c.args.ty.index in
    let j = c.args.element in
    let is = subst (λ k. IsTypeOfKind p.types i (elements k j)) c.in-SetOf.is c.requires.is in
    subst (λ k. IsCoreOf p i M (elements k j) (types.a_set_of (constraint_of c.in-Ok.size) j)) (sym c.in-SetOf.is)
    (set_of_core p i M j (constraint_of c.in-Ok.size) is (c.in-Ok.ensures _ is))
