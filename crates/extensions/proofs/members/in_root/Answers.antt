use Rattle.std.proofs.Common.{ap, option_map}
use Rattle.std.proofs.lemmas.Result.{IfOk-weaker}
use Rattle.extensions.specs.proving.Tables.{shared_seen}
use Rattle.asn_base.specs.Seen.{presence_of as presence_seen}
use Rattle.settled.specs.schema_of.SchemaOf as schema_of
use Rattle.trees.specs.Types.{presence_tree}
use Rattle.type_table.specs.Seen.{part_of}
use Rattle.extensions.proofs.Parts.{default_there}
use Rattle.extensions.proofs.members.in_root.Goals as goal

pub default_value-requires : goal.default_value-requires
default_value-requires c e = c.requires.given _ (ap presence_tree c.in-Default.is) (ap (option_map shared_seen) e)

pub returns-in-Mandatory : goal.returns-in-Mandatory
returns-in-Mandatory c p M st d = schema_of.is_mandatory st (ap presence_tree c.in-Mandatory.is)

pub returns-in-Optional : goal.returns-in-Optional
returns-in-Optional c p M st d = schema_of.is_optional st (ap presence_tree c.in-Optional.is)

pub returns-in-Default : goal.returns-in-Default
returns-in-Default c p M st d =
    IfOk-weaker c.default_value.result _ _
    (λ r same. default_there p M (part_of c.args.part.now) _ (option_map shared_seen c.args.default.now) (presence_seen r) st
    (ap presence_tree c.in-Default.is) d same)
    c.default_value.ensures
