use Rattle.named_values.proofs.Dots.{dot_parts, dot_only}
use Rattle.named_values.proofs.naming.qualified.Goals as goal

pub returns-clause-parts : goal.returns-clause-parts
returns-clause-parts c = dot_parts c.args.text.now c.split_once.result c.split_once.ensures.cases

pub returns-clause-only : goal.returns-clause-only
returns-clause-only c = dot_only c.args.text.now c.split_once.result c.split_once.ensures.cases
