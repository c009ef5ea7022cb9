use Rattle.std.proofs.Common.{◌≡◌, length}
use Rattle.codec_source.specs.Reading.{past_components}
use Rattle.codec_source.proofs.ask.after_components.Given as goal

abbrev pub invariant-loop-step : goal.invariant-loop-step
invariant-loop-step l = past_components l.rest ≡ past_components l.steps

abbrev pub decreases-loop-step : goal.decreases-loop-step
decreases-loop-step l = length l.rest
