use Rattle.typed_values.proofs.Readings.{absent_addition, absent_mandatory, absent_optional}
use Rattle.typed_values.proofs.reading.default_of.Goals as goal

pub returns-in-Addition-clause-none : goal.returns-in-Addition-clause-none
returns-in-Addition-clause-none c = λ p levels N e. absent_addition c.args.component.now c.in-Addition.field-0 c.in-Addition.is

pub returns-in-Mandatory-clause-none : goal.returns-in-Mandatory-clause-none
returns-in-Mandatory-clause-none c = λ p levels N e. absent_mandatory c.args.component.now c.in-Root.is c.in-Mandatory.is c.requires

pub returns-in-Optional-clause-none : goal.returns-in-Optional-clause-none
returns-in-Optional-clause-none c = λ p levels N e. absent_optional c.args.component.now c.in-Optional.is
