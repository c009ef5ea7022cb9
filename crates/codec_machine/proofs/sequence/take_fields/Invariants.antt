use Rattle.std.proofs.Common.{◌≤◌, length}
use Rattle.asn_base.specs.Abstract.{abstract}
use Rattle.codec_code.specs.Steps.{Steps}
use Rattle.codec_machine.specs.Frames.{Progress}
use Rattle.codec_machine.specs.OpenRows.{Carries}
use Rattle.codec_machine.proofs.sequence.take_fields.Given as goal

abbrev pub invariant-loop-step : goal.invariant-loop-step
invariant-loop-step g l =
    Progress (Carries g.B.Backend.opened l.row) (Steps l.rest.code.now l.rest.id.index l.rest.steps.now (abstract l.rest.value.now)) l.initial.backend
    (Steps l.rest.code.now l.rest.id.index l.left (abstract l.rest.value.now)) l.backend
    × (length l.left ≤ length l.rest.steps.now)

abbrev pub decreases-loop-step : goal.decreases-loop-step
decreases-loop-step g l = length l.left
