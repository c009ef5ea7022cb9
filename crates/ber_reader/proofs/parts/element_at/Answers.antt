use Rattle.std.proofs.Common.{refl}
use Rattle.ber_reader.specs.Stepped.{element_in}
use Rattle.ber_reader.proofs.Stepping.{element_in_place, looked_up}
use Rattle.ber_reader.proofs.parts.element_at.Goals as goal

pub returns-in-Some : goal.returns-in-Some
returns-in-Some c = looked_up element_in 0 c.in-Some.is c.step_at.ensures c.contents.ensures (element_in_place c.args.code.now c.args.id.index) c.element_in.ensures

pub returns-in-None : goal.returns-in-None
returns-in-None c = looked_up element_in 0 c.in-None.is c.step_at.ensures c.contents.ensures (element_in_place c.args.code.now c.args.id.index) refl
