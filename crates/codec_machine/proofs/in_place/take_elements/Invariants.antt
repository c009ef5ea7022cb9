use Rattle.std.proofs.Common.{◌≤◌, length}
use Rattle.codec_machine.specs.Frames.{ElementsEmit, Progress, elements_weight}
use Rattle.codec_machine.specs.Weights.{total}
use Rattle.codec_machine.proofs.in_place.take_elements.Given as goal

abbrev pub invariant-loop-first : goal.invariant-loop-first
invariant-loop-first g l =
    Progress g.B.Backend.adds (ElementsEmit l.code l.id.index l.values) l.initial.backend (ElementsEmit l.code l.id.index l.left) l.backend
    × (elements_weight (total l.code) l.left ≤ elements_weight (total l.code) l.values)

abbrev pub decreases-loop-first : goal.decreases-loop-first
decreases-loop-first g l = length l.left
