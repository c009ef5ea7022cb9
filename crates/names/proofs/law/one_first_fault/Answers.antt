use Rattle.names.proofs.OneExport.{one_exports}
use Rattle.names.proofs.OneLimit.{one_passed, past_few}
use Rattle.names.proofs.OneSpot.{one_spot, spot_excludes}
use Rattle.names.proofs.law.one_first_fault.Goals as goal

pub returns-clause-limit : goal.returns-clause-limit
returns-clause-limit c = one_passed

pub returns-clause-few : goal.returns-clause-few
returns-clause-few c = λ ws l s. past_few l ws s

pub returns-clause-twice : goal.returns-clause-twice
returns-clause-twice c = one_spot

pub returns-clause-different : goal.returns-clause-different
returns-clause-different c = spot_excludes

pub returns-clause-offers : goal.returns-clause-offers
returns-clause-offers c = one_exports
