use Rattle.ber_source.specs.Seen.{state_of}
use Rattle.ber_source.specs.Log.{logged}
use Rattle.ber_source.proofs.Taken.{component_as, nothing_as}
use Rattle.ber_source.proofs.cursor.ViewerSource.small_component.Goals as goal

pub returns-clause-taken : goal.returns-clause-taken
returns-clause-taken c = component_as c.small_component.result (state_of (λ t. logged t.log) c.self.inside.place) c.args.self.now (state_of (λ t. logged t.log) c.small_component.new.place) c.args.field c.args.head c.args.kind c.self.view_is c.small_component.ensures.taken

pub returns-clause-same : goal.returns-clause-same
returns-clause-same c = nothing_as c.small_component.result (state_of (λ t. logged t.log) c.self.inside.place) c.args.self.now (state_of (λ t. logged t.log) c.small_component.new.place) c.self.view_is c.small_component.ensures.same
