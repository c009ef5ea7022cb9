use Rattle.std.proofs.Common.{ap, sym, subst}
use Rattle.asn_base.specs.declared.schema.Core.{Core}
use Rattle.asn_base.specs.Seen.{kind_of}
use Rattle.asn_base.specs.Types.{Resolved}
use Rattle.extensions.specs.proving.Tables.{IsResolved}
use Rattle.extensions.proofs.Alike.{resolved_too}
use Rattle.extensions.proofs.types.shared.Goals as goal

pub returns-in-Ok-clone : goal.returns-in-Ok-clone
returns-in-Ok-clone c =
    let p = c.args.bounded.now.program in
    let made = c.args.made.now in
    subst (λ (k : Core). IsResolved p c.args.ty.index (record { tags = c.in-Ok.tags.items; kind = kind_of k }))
    (sym c.in-Ok-clone.ensures.cases)
    (resolved_too p c.args.other c.args.ty.index made.tags.items c.in-Ok.tags.items (kind_of made.core.value)
    c.requires.alike c.requires.made c.in-Ok.ensures)
