use Rattle.typed_values.proofs.Tables.{one_more_true}
use Rattle.typed_values.proofs.named.NamedValues.add.Goals as goal

pub returns-in-Ok-clause-known : goal.returns-in-Ok-clause-known
returns-in-Ok-clause-known c =
    one_more_true c.args.self.now.entries.items c.push.new.self.items c.args.entry c.in-Ok.ensures.items c.requires.known
    c.requires.comes
