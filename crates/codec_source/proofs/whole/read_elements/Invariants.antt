use Rattle.codec_source.specs.Small.{TakesElement}
use Rattle.codec_source.specs.proving.Wholes.{Chain}
use Rattle.codec_source.proofs.whole.read_elements.Given as goal

abbrev pub invariant-loop-fault : goal.invariant-loop-fault
invariant-loop-fault g l = Chain (TakesElement g.S.Source.takes l.id l.sorted l.head l.kind) l.initial.source l.source

abbrev pub decreases-loop-fault : goal.decreases-loop-fault
decreases-loop-fault g l = g.S.Source.budget l.source
