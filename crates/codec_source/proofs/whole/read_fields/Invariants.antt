use Rattle.std.specs.Prelude.{length}
use Rattle.codec_code.specs.Routines.{routine_at}
use Rattle.codec_source.specs.proving.Wholes.{ReadsOn}
use Rattle.codec_source.proofs.whole.read_fields.Given as goal

abbrev pub invariant-loop-field : goal.invariant-loop-field
invariant-loop-field g l = ReadsOn (routine_at l.code) g.S.Source.takes l.initial.rest l.rest l.initial.source l.source

abbrev pub decreases-loop-field : goal.decreases-loop-field
decreases-loop-field g l = length l.rest
