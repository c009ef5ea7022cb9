use Rattle.std.proofs.Common.{sym, ◌∙◌}
use Rattle.std.specs.Prelude.{option_map}
use Rattle.asn_base.specs.Seen.{component_of}
use Rattle.asn_base.proofs.Leaves.{yes}
use Rattle.asn_base.proofs.Rooted.{left_out, stays}
use Rattle.asn_base.proofs.additions.is_in_root.Goals as goal

pub returns-then-is_addition : goal.returns-then-is_addition
returns-then-is_addition g c = yes (left_out c.args.known.types.now c.args.known.levels (option_map g.N.ValueNode.value_of c.args.found.now) (component_of c.args.component.now) (sym c.is_addition.ensures ∙ c.if-is_addition.true))

pub returns : goal.returns
returns g c = stays c.args.known.types.now c.args.known.levels (option_map g.N.ValueNode.value_of c.args.found.now) (component_of c.args.component.now) (sym c.is_addition.ensures ∙ c.if-is_addition.false) c.is_component.ensures.is
