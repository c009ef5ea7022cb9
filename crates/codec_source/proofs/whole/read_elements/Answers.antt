use Rattle.codec_source.specs.proving.Wholes.{no_link, and_link}
use Rattle.codec_source.proofs.whole.read_elements.Goals as goal

pub loop-fault-init : goal.loop-fault-init
loop-fault-init g c = no_link

pub loop-fault-preserved : goal.loop-fault-preserved
loop-fault-preserved g c = and_link c.loop-fault.invariant (c.in-Ok-true.ensures.taken c.in-Ok-true.field-0-test)
