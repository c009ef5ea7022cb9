use Rattle.std.proofs.Common.{sym, ap, ◌∙◌, string_bytes, option_map}
use Rattle.std.specs.Map.Iter.{deref_pair}
use Rattle.names.specs.Scopes.{module_of}
use Rattle.names.specs.proving.Distinct.{occurs_map}
use Rattle.names.proofs.standing.module_at.Goals as goal

pub returns-clause-seen : goal.returns-clause-seen
returns-clause-seen c =
    let e = sym c.get_index.ensures.entry ∙ ap (option_map deref_pair) c.unwrap.ensures in
    occurs_map (λ p. (string_bytes p.0, module_of p.1)) c.args.modules.now.entries c.args.i (c.unwrap.result.0.now, c.unwrap.result.1.now) e

pub returns-clause-entry : goal.returns-clause-entry
returns-clause-entry c = sym c.get_index.ensures.entry ∙ ap (option_map deref_pair) c.unwrap.ensures
