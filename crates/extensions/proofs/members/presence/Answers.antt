use Rattle.std.proofs.Common.{ap, refl, subst, sym}
use Rattle.asn_base.specs.Types as types
use Rattle.settled.specs.schema_of.SchemaOf.{IsPresenceOf}
use Rattle.tagging.specs.First as first
use Rattle.type_table.specs.Seen.{part_of}
use Rattle.extensions.proofs.Parts.{added_presence}
use Rattle.extensions.proofs.members.presence.Goals as goal

pub returns-in-Addition : goal.returns-in-Addition
returns-in-Addition c p M d =
    let part = part_of c.args.part.now in
    subst (λ b. IsPresenceOf p M part (types.addition b c.in-Addition.group)) (sym c.is_optional-optional.ensures)
    (added_presence p M part c.in-Addition.group part.presence c.in-Addition.is refl
    (c.requires.plain (ap first.is_added_member c.in-Addition.is)))
