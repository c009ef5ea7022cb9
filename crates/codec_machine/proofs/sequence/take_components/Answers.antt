use Rattle.asn_base.specs.Abstract.{abstract}
use Rattle.codec_code.specs.Steps.{Steps}
use Rattle.codec_machine.proofs.InPlace.{no_progress}
use Rattle.codec_machine.proofs.OpenRows.{carries_nothing}
use Rattle.codec_machine.proofs.sequence.take_components.Goals as goal

pub returns-in-None-clause-ok : goal.returns-in-None-clause-ok
returns-in-None-clause-ok g c =
    no_progress (Steps c.args.rest.code.now c.args.rest.id.index c.args.rest.steps.now (abstract c.args.rest.value.now))
    c.args.backend.now (carries_nothing g.B.Backend.opened c.args.row c.args.backend.now)
