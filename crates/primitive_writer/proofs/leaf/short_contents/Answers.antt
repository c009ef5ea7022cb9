use Rattle.asn_base.specs.Abstract.{abstract}
use Rattle.primitive_writer.proofs.Contents.{short_given}
use Rattle.primitive_writer.proofs.leaf.short_contents.Goals as goal

pub returns-in-Boolean : goal.returns-in-Boolean
returns-in-Boolean c = short_given (abstract c.args.value.now) c.short_boolean.result c.in-Boolean.is c.short_boolean.ensures

pub returns-in-Integer : goal.returns-in-Integer
returns-in-Integer c = short_given (abstract c.args.value.now) c.short_integer.result c.in-Integer.is c.short_integer.ensures

pub returns-in-Enumerated : goal.returns-in-Enumerated
returns-in-Enumerated c = short_given (abstract c.args.value.now) c.short_enumerated.result c.in-Enumerated.is c.short_enumerated.ensures
