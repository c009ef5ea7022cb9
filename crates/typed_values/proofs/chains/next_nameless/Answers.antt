use Rattle.std.proofs.Common.{ap, subst}
use Rattle.type_table.specs.Seen.{kind_of}
use Rattle.type_table.specs.Table.{WrittenKind}
use Rattle.typed_values.specs.proving.Stopping.{LeadsFrom}
use Rattle.typed_values.proofs.chains.next_nameless.Goals as goal

pub returns : goal.returns
returns c =
    subst (λ (k : WrittenKind). LeadsFrom c.args.linked.now.program k c.args.opened.now c.args.number c.next_at.result)
    (ap kind_of c.of-nameless.ensures) c.next_at.ensures
