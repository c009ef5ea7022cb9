use Rattle.codec_source.specs.Events.{among, which_comes}
use Rattle.ber_source.specs.Seen.{state_of}
use Rattle.ber_source.specs.Log.{logged}
use Rattle.ber_source.specs.proving.Taken.{takes_one, never_one, left_as}
use Rattle.ber_source.proofs.cursor.ViewerSource.next_component.Goals as goal

pub returns-clause-ok : goal.returns-clause-ok
returns-clause-ok c =
    takes_one c.lemma_one_answer.ensures.takes c.next_in_set.result (state_of (λ t. logged t.log) c.self.inside.place) c.args.self.now (state_of (λ t. logged t.log) c.next_in_set.new.place) (λ q. among c.args.steps.now q) c.self.view_is c.next_in_set.ensures.ok

pub returns-clause-err : goal.returns-clause-err
returns-clause-err c = never_one c.next_in_set.result (state_of (λ t. logged t.log) c.self.inside.place) c.args.self.now (λ q. among c.args.steps.now q) c.self.view_is c.next_in_set.ensures.err

pub returns-clause-left : goal.returns-clause-left
returns-clause-left c = left_as c.next_in_set.result (state_of (λ t. logged t.log) c.self.inside.place) c.args.self.now (state_of (λ t. logged t.log) c.next_in_set.new.place) (which_comes c.args.steps.now) c.self.view_is c.next_in_set.ensures.left
