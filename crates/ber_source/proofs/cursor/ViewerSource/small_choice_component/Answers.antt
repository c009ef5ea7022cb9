use Rattle.codec_code.specs.Routines.{routine_at}
use Rattle.ber_source.specs.Seen.{state_of}
use Rattle.ber_source.specs.Log.{logged}
use Rattle.ber_source.proofs.Taken.{choice_component_as, nothing_as}
use Rattle.ber_source.proofs.cursor.ViewerSource.small_choice_component.Goals as goal

pub returns-clause-taken : goal.returns-clause-taken
returns-clause-taken c = choice_component_as c.small_choice_component.result (state_of (λ t. logged t.log) c.self.inside.place) c.args.self.now (state_of (λ t. logged t.log) c.small_choice_component.new.place) (routine_at c.args.code.now) c.args.field c.args.calls.now c.self.view_is c.small_choice_component.ensures.taken

pub returns-clause-same : goal.returns-clause-same
returns-clause-same c = nothing_as c.small_choice_component.result (state_of (λ t. logged t.log) c.self.inside.place) c.args.self.now (state_of (λ t. logged t.log) c.small_choice_component.new.place) c.self.view_is c.small_choice_component.ensures.same
