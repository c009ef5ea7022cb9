use Rattle.std.proofs.Common.{◌≡◌, []}
use Rattle.std.specs.Prelude.{None}
use Rattle.codec_machine.specs.Frames.{Reached, and_next, weighs}
use Rattle.codec_machine.specs.Weights.{total}
use Rattle.codec_machine.proofs.machine.run.Given as goal

abbrev pub invariant-loop-next : goal.invariant-loop-next
invariant-loop-next g l =
    Reached l.code g.B.Backend.adds (and_next l.initial.frames.items l.initial.next) l.initial.backend (and_next l.frames.items l.next) l.backend
    × (l.next ≡ None → l.frames.items ≡ [])

abbrev pub decreases-loop-next : goal.decreases-loop-next
decreases-loop-next g l = weighs (total l.code) (and_next l.frames.items l.next)
