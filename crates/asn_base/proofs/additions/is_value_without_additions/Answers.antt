use Rattle.std.proofs.Common.{subst, sym}
use Rattle.std.specs.Prelude.{◌↔◌, IsTrue}
use Rattle.asn_base.specs.Abstract.{fields, placed, row_of_options}
use Rattle.asn_base.specs.Additions.{without_additions}
use Rattle.asn_base.specs.Decided.{HoldsMembers}
use Rattle.asn_base.specs.Depths.{IsOf}
use Rattle.asn_base.specs.Schemas.{components}
use Rattle.asn_base.specs.Seen.{kind_of}
use Rattle.asn_base.proofs.Leaves.{no}
use Rattle.asn_base.proofs.Rooted.{is_of, no_such_type, root_as}
use Rattle.asn_base.proofs.additions.is_value_without_additions.Goals as goal

pub returns-then-not-has : goal.returns-then-not-has
returns-then-not-has g c = no (no_such_type (λ l. let e = c.has.ensures.1 l in cc))

pub are_of_type-requires-clause-ready : goal.are_of_type-requires-clause-ready
are_of_type-requires-clause-ready g c = c.kept-kept.ensures.ready _

pub are_of_type-requires-clause-of : goal.are_of_type-requires-clause-of
are_of_type-requires-clause-of g c =
    subst (λ s. IsOf s c.args.id.index (kind_of c.core.result.now)) (sym c.kept-kept.ensures.is) (is_of c.args.schema.now c.args.id.index c.core.result.now c.core.ensures.is)

pub returns : goal.returns
returns g c =
    let kind = kind_of c.core.result.now in
    let row = row_of_options (placed c.args.size (λ i. g.N.ValueNode.part_at c.args.fields i)) in
    root_as c.args.schema.now c.args.id.index c.core.result.now c.core.ensures.is
    (subst (λ s. IsTrue c.are_of_type.result ↔ HoldsMembers s 63 kind (fields (without_additions (components kind) row))) c.kept-kept.ensures.is c.are_of_type.ensures)
