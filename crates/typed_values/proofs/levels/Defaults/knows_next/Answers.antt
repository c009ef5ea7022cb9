use Rattle.typed_values.proofs.levels.Defaults.knows_next.Goals as goal

pub entry-requires-clause-known : goal.entry-requires-clause-known
entry-requires-clause-known c = c.requires.known.named
