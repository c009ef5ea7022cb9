use Rattle.std.proofs.Common.{None, Some}
use Rattle.names.specs.proving.Meanings.{under_found}
use Rattle.typed_values.proofs.stops.Stops.number.Goals as goal

pub returns-in-None : goal.returns-in-None
returns-in-None c = under_found (λ n. n) c.args.self.now.numbers.entries c.args.name.now None c.in-None.ensures.value

pub returns-in-Some : goal.returns-in-Some
returns-in-Some c = under_found (λ n. n) c.args.self.now.numbers.entries c.args.name.now (Some c.in-Some.number) c.in-Some.ensures.value
