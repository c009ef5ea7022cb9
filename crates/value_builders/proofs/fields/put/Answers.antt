use Rattle.std.proofs.Common.{Some}
use Rattle.std.specs.Prelude.{option_map}
use Rattle.asn_base.specs.Abstract.{abstract}
use Rattle.value_builders.proofs.Setting.{mapped_set, set_length}
use Rattle.value_builders.proofs.fields.put.Goals as goal

pub returns-clause-values : goal.returns-clause-values
returns-clause-values c = mapped_set (option_map abstract) c.args.values.now.items c.args.place (Some c.args.value)

pub returns-clause-length : goal.returns-clause-length
returns-clause-length c = set_length c.args.values.now.items c.args.place (Some c.args.value)
