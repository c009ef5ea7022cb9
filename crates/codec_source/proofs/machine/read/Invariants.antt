use Rattle.std.proofs.Common.{◌≡◌, [], length}
use Rattle.std.specs.Prelude.{None}
use Rattle.codec_code.specs.Routines.{routine_at, table_of}
use Rattle.codec_source.specs.proving.Frames.{IsUnderWay, weighs}
use Rattle.codec_source.specs.proving.Waiting.{and_next}
use Rattle.codec_source.proofs.machine.read.Given as goal

abbrev pub invariant-loop-next : goal.invariant-loop-next
invariant-loop-next g l =
    IsUnderWay (routine_at l.code) g.S.Source.takes g.S.Source.refuses (and_next l.initial.frames.items l.initial.next) l.initial.source (and_next l.frames.items l.next) l.source
    × (l.next ≡ None → l.frames.items ≡ [])

abbrev pub decreases-loop-next : goal.decreases-loop-next
decreases-loop-next g l = weighs (length (table_of l.code)) (g.S.Source.budget l.source) (and_next l.frames.items l.next)
