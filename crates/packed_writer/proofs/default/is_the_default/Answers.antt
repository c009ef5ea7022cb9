use Rattle.std.proofs.Common.{ap, sym, ◌∙◌}
use Rattle.asn_base.specs.Abstract.{abstract}
use Rattle.asn_base.specs.declared.value.Value.{Value}
use Rattle.asn_base.specs.Seen.{component_of, presence_of}
use Rattle.asn_base.specs.Types.{default}
use Rattle.packed_writer.proofs.Defaults.{same_as_default}
use Rattle.packed_writer.proofs.default.is_the_default.Goals as goal

pub returns-in-Default : goal.returns-in-Default
returns-in-Default c =
    same_as_default c.args.schema.now (component_of c.args.component.now) (abstract c.args.value.now) (abstract c.deref.result.now) c.same_values.result
    (c.computing_laws.ensures.defaults c.args.schema.now) c.requires.known c.requires.value (ap presence_of c.in-Default.is ∙ ap (λ (v : Value). default (abstract v)) (sym c.deref.ensures)) c.same_values.ensures
