use Rattle.extensions.proofs.CoreKinds.{string_core}
use Rattle.extensions.proofs.simple.restricted_string.Goals as goal

pub returns-in-Ok-constraint : goal.returns-in-Ok-constraint
returns-in-Ok-constraint c M =
    string_core c.args.bounded.now.program c.args.ty.index M c.args.kind c.in-Ok.alphabet.items _ c.requires.is
    (c.in-Ok.ensures.strings c.args.kind c.requires.is)
    (c.in-Ok-constraint.ensures _ c.requires.is)
