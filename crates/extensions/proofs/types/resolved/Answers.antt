use Rattle.std.proofs.Common.{sym, subst}
use Rattle.asn_base.specs.Seen.{kind_of}
use Rattle.asn_base.specs.Types.{Resolved}
use Rattle.extensions.specs.proving.Tables.{IsResolved}
use Rattle.extensions.proofs.Whole.{is_type, is_program_schema}
use Rattle.extensions.proofs.types.resolved.Goals as goal

pub returns-in-Ok-of : goal.returns-in-Ok-of
returns-in-Ok-of c =
    let p = c.args.bounded.now.program in
    let k = kind_of c.in-Ok-core.core in
    subst (λ (r : Resolved). IsResolved p c.args.ty.index r) (sym c.in-Ok-of.ensures) (record {
      is = is_type p c.args.ty.index k c.in-Ok-core.ensures;
      settled = is_program_schema p c.args.ty.index c.in-Ok.tags.items k c.in-Ok.ensures c.in-Ok-core.ensures;
    })
