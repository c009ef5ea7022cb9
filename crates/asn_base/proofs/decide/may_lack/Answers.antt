use Rattle.std.proofs.Common.{◌∙◌, ap, subst, sym}
use Rattle.std.specs.Prelude.{◌↔◌, IfSome, IsTrue}
use Rattle.asn_base.specs.declared.value.Value.{Value}
use Rattle.asn_base.specs.Abstract.{abstract}
use Rattle.asn_base.specs.Depths.{IsDepth}
use Rattle.asn_base.specs.Seen.{component_of, presence_of}
use Rattle.asn_base.specs.Typed.{ValueIn}
use Rattle.asn_base.proofs.DepthLaws.{by_depth, at_most}
use Rattle.asn_base.proofs.Leaves.{yes}
use Rattle.asn_base.proofs.Parts.{by_default, may_addition, may_optional}
use Rattle.asn_base.proofs.Ready.{no_table}
use Rattle.asn_base.proofs.decide.may_lack.Goals as goal

pub has_levels-requires : goal.has_levels-requires
has_levels-requires c =
    let n = no_table _ c.args.known.depths.now (sym c.in-None.is ∙ c.depth_of.ensures) in
    (64, subst (λ (v : Value). ValueIn c.args.known.types.now 64 c.args.component.now.ty.index (abstract v)) (sym c.deref.ensures) (c.requires.value n _ (ap presence_of c.in-Default.is)).shaped)

pub returns-in-Optional : goal.returns-in-Optional
returns-in-Optional c = yes (may_optional (ap presence_of c.in-Optional.is))

pub returns-in-Some : goal.returns-in-Some
returns-in-Some c =
    let k = subst (λ q. IfSome q (IsDepth c.args.known.types.now c.args.known.levels (component_of c.args.component.now))) (sym c.depth_of.ensures ∙ c.in-Some.is) c.requires.depth in
    by_depth c.args.known.types.now c.args.known.levels (component_of c.args.component.now) c.in-Some.least (ap presence_of c.in-Default.is) k (at_most c.in-Some.least c.args.known.levels)

pub returns-in-None : goal.returns-in-None
returns-in-None c = by_default (ap presence_of c.in-Default.is) (subst (λ (v : Value). IsTrue c.has_levels.result ↔ ValueIn c.args.known.types.now c.args.known.levels c.args.component.now.ty.index (abstract v)) c.deref.ensures c.has_levels.ensures)

pub returns-in-Addition : goal.returns-in-Addition
returns-in-Addition c = yes (may_addition (ap presence_of c.in-Addition.is))
