use Rattle.std.proofs.Common.{length}
use Rattle.codec_machine.specs.Frames.{ElementsEmit, Progress}
use Rattle.codec_machine.proofs.in_place.whole_elements.Given as goal

abbrev pub invariant-loop-first : goal.invariant-loop-first
invariant-loop-first g l =
    Progress g.B.Backend.adds (ElementsEmit l.fn.code l.fn.id.index l.values) l.initial.backend (ElementsEmit l.fn.code l.fn.id.index l.left) l.backend

abbrev pub decreases-loop-first : goal.decreases-loop-first
decreases-loop-first g l = length l.left
