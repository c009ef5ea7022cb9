use Rattle.resolve.proofs.SameText.{same_values}
use Rattle.names.specs.Written.{written_types}
use Rattle.resolve.proofs.law.one_text.Goals as goal

pub returns-clause-types : goal.returns-clause-types
returns-clause-types c = λ ws v w a b. c.one_text.ensures (written_types ws) v.types w.types a.types b.types

pub returns-clause-values : goal.returns-clause-values
returns-clause-values c = same_values
