use Rattle.ber_reader.proofs.Owing.{deep_as, half_as}
use Rattle.ber_reader.proofs.wrong.fault_of_fields.Goals as goal

pub returns-then-is_value_without_additions-clause-own : goal.returns-then-is_value_without_additions-clause-own
returns-then-is_value_without_additions-clause-own c =
    half_as c.is_value_without_additions.result c.if-is_value_without_additions.true c.is_value_without_additions.ensures c.requires

pub returns-else-is_value_without_additions-clause-own : goal.returns-else-is_value_without_additions-clause-own
returns-else-is_value_without_additions-clause-own c = deep_as c.is_value_without_additions.result c.if-is_value_without_additions.false c.is_value_without_additions.ensures
