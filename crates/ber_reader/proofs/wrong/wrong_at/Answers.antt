use Rattle.std.proofs.Common.{ap}
use Rattle.std.specs.Prelude.{option_map, slice_get}
use Rattle.asn_base.specs.Schemas.{components}
use Rattle.views.specs.Tree.{value_of}
use Rattle.ber_reader.specs.Judged.{kind_at}
use Rattle.ber_reader.proofs.Judging.{component_is, component_lacks, component_absent}
use Rattle.ber_reader.proofs.wrong.wrong_at.Goals as goal

pub if_wrong-requires : goal.if_wrong-requires
if_wrong-requires c = c.requires (value_of c.in-Some.value) (ap (option_map value_of) c.in-Some.is)

pub returns-in-Some-component_type : goal.returns-in-Some-component_type
returns-in-Some-component_type c =
    component_is c.args.place c.in-Some-component_type.ty (value_of c.in-Some.value) (slice_get (components (kind_at c.args.code.now c.args.id.index)) c.args.place) (option_map value_of c.args.found)
    c.in-Some-component_type.ensures (ap (option_map value_of) c.in-Some.is) c.if_wrong.ensures

pub returns-in-None-component_type : goal.returns-in-None-component_type
returns-in-None-component_type c =
    component_lacks c.args.place (slice_get (components (kind_at c.args.code.now c.args.id.index)) c.args.place) (option_map value_of c.args.found) c.in-None-component_type.ensures

pub returns-in-None : goal.returns-in-None
returns-in-None c =
    component_absent c.args.place (slice_get (components (kind_at c.args.code.now c.args.id.index)) c.args.place) (option_map value_of c.args.found) (ap (option_map value_of) c.in-None.is)
