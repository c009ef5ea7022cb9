use Rattle.std.proofs.Common.{◌≤◌, length}
use Rattle.asn_base.specs.Abstract.{abstract}
use Rattle.codec_code.specs.Steps.{Steps}
use Rattle.codec_machine.specs.Frames.{Progress}
use Rattle.codec_machine.proofs.in_place.take_steps.Given as goal

abbrev pub invariant-loop-step : goal.invariant-loop-step
invariant-loop-step g l =
    Progress g.B.Backend.adds (Steps l.code l.id.index l.steps (abstract l.value)) l.initial.backend
    (Steps l.code l.id.index l.left (abstract l.value)) l.backend
    × (length l.left ≤ length l.steps)

abbrev pub decreases-loop-step : goal.decreases-loop-step
decreases-loop-step g l = length l.left
