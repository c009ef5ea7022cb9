use Rattle.typed_values.proofs.reading.typed.Goals as goal

pub read_with-requires-clause-known : goal.read_with-requires-clause-known
read_with-requires-clause-known c = c.of_one-defaults.ensures c.args.bounded.now.program
