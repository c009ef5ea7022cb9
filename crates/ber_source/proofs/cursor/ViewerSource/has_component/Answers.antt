use Rattle.codec_source.specs.Events.{comes, whether_comes}
use Rattle.ber_source.specs.Seen.{state_of}
use Rattle.ber_source.specs.Log.{logged}
use Rattle.ber_source.specs.proving.Taken.{takes_one, never_one, left_as}
use Rattle.ber_source.proofs.cursor.ViewerSource.has_component.Goals as goal

pub returns-clause-ok : goal.returns-clause-ok
returns-clause-ok c =
    takes_one c.lemma_one_answer.ensures.takes c.is_component_next.result (state_of (λ t. logged t.log) c.self.inside.place) c.args.self.now (state_of (λ t. logged t.log) c.is_component_next.new.place) (λ q. comes c.args.field q) c.self.view_is c.is_component_next.ensures.ok

pub returns-clause-err : goal.returns-clause-err
returns-clause-err c = never_one c.is_component_next.result (state_of (λ t. logged t.log) c.self.inside.place) c.args.self.now (λ q. comes c.args.field q) c.self.view_is c.is_component_next.ensures.err

pub returns-clause-left : goal.returns-clause-left
returns-clause-left c = left_as c.is_component_next.result (state_of (λ t. logged t.log) c.self.inside.place) c.args.self.now (state_of (λ t. logged t.log) c.is_component_next.new.place) (whether_comes c.args.field) c.self.view_is c.is_component_next.ensures.left
