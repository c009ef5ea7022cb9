use Rattle.std.proofs.Common.{refl}
use Rattle.octet_answers.specs.Found.{field_in}
use Rattle.ber_reader.proofs.Stepping.{component_in_place, looked_up}
use Rattle.ber_reader.proofs.parts.component_at.Goals as goal

pub returns-in-Some : goal.returns-in-Some
returns-in-Some c = looked_up field_in c.args.place c.in-Some.is c.step_at.ensures c.contents.ensures (component_in_place c.args.code.now c.args.id.index c.args.place) c.field_in.ensures

pub returns-in-None : goal.returns-in-None
returns-in-None c = looked_up field_in c.args.place c.in-None.is c.step_at.ensures c.contents.ensures (component_in_place c.args.code.now c.args.id.index c.args.place) refl
