use Rattle.typed_values.proofs.levels.Defaults.entry_on_way.Goals as goal

pub entry-requires-else-reached-clause-known : goal.entry-requires-else-reached-clause-known
entry-requires-else-reached-clause-known c = c.requires.known.named
