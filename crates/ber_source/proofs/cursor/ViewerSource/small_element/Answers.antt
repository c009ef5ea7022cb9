use Rattle.ber_source.specs.Seen.{state_of}
use Rattle.ber_source.specs.Log.{logged}
use Rattle.ber_source.proofs.Taken.{element_as, nothing_as}
use Rattle.ber_source.proofs.cursor.ViewerSource.small_element.Goals as goal

pub returns-clause-taken : goal.returns-clause-taken
returns-clause-taken c = element_as c.small_element.result (state_of (λ t. logged t.log) c.self.inside.place) c.args.self.now (state_of (λ t. logged t.log) c.small_element.new.place) c.args.id c.args.sorted c.args.head c.args.kind c.self.view_is c.small_element.ensures.taken

pub returns-clause-same : goal.returns-clause-same
returns-clause-same c = nothing_as c.small_element.result (state_of (λ t. logged t.log) c.self.inside.place) c.args.self.now (state_of (λ t. logged t.log) c.small_element.new.place) c.self.view_is c.small_element.ensures.same
