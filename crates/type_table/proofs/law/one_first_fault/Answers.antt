use Rattle.type_table.proofs.OneNumbering.{numbering_not, one_circle, one_numbering, one_too_many, unfolds_not}
use Rattle.type_table.proofs.law.one_first_fault.Goals as goal

pub returns-clause-numbering : goal.returns-clause-numbering
returns-clause-numbering c = one_numbering

pub returns-clause-numbered : goal.returns-clause-numbered
returns-clause-numbered c = numbering_not

pub returns-clause-many : goal.returns-clause-many
returns-clause-many c = one_too_many

pub returns-clause-circle : goal.returns-clause-circle
returns-clause-circle c = one_circle

pub returns-clause-unfolds : goal.returns-clause-unfolds
returns-clause-unfolds c = unfolds_not
