use Rattle.std.proofs.Common.{refl, suc}
use Rattle.ber_reader.specs.Stepped.{called_in}
use Rattle.ber_reader.proofs.Stepping.{alternative_in_place, looked_up}
use Rattle.ber_reader.proofs.parts.alternative_at.Goals as goal

pub returns-in-Some : goal.returns-in-Some
returns-in-Some c = looked_up called_in (suc c.args.index) c.in-Some.is c.step_after.ensures c.contents.ensures (alternative_in_place c.args.code.now c.args.id.index c.args.index) c.called_in.ensures

pub returns-in-None : goal.returns-in-None
returns-in-None c = looked_up called_in (suc c.args.index) c.in-None.is c.step_after.ensures c.contents.ensures (alternative_in_place c.args.code.now c.args.id.index c.args.index) refl
