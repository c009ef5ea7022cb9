use Rattle.std.proofs.Common.{map}
use Rattle.type_table.specs.Seen.{part_of}
use Rattle.value_notations.specs.Notations.{part_names}
use Rattle.values.proofs.Lookups.{place_found}
use Rattle.values.proofs.lookup.alternative.Goals as goal

pub returns : goal.returns
returns c =
    place_found c.args.name.now (part_names (map part_of c.args.alternatives.now)) c.component_of.result c.component_of.ensures
