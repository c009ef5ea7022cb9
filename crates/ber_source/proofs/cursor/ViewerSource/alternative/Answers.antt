use Rattle.codec_source.specs.Events.{picks, which_picked}
use Rattle.ber_source.specs.Seen.{state_of}
use Rattle.ber_source.specs.Log.{logged}
use Rattle.ber_source.specs.proving.Taken.{takes_one, never_one, left_as}
use Rattle.ber_source.proofs.cursor.ViewerSource.alternative.Goals as goal

pub returns-clause-ok : goal.returns-clause-ok
returns-clause-ok c =
    takes_one c.lemma_one_answer.ensures.takes c.choose_next.result (state_of (λ t. logged t.log) c.self.inside.place) c.args.self.now (state_of (λ t. logged t.log) c.choose_next.new.place) (λ q. picks c.args.calls.now q) c.self.view_is c.choose_next.ensures.ok

pub returns-clause-err : goal.returns-clause-err
returns-clause-err c = never_one c.choose_next.result (state_of (λ t. logged t.log) c.self.inside.place) c.args.self.now (λ q. picks c.args.calls.now q) c.self.view_is c.choose_next.ensures.err

pub returns-clause-left : goal.returns-clause-left
returns-clause-left c = left_as c.choose_next.result (state_of (λ t. logged t.log) c.self.inside.place) c.args.self.now (state_of (λ t. logged t.log) c.choose_next.new.place) (which_picked c.args.calls.now) c.self.view_is c.choose_next.ensures.left
