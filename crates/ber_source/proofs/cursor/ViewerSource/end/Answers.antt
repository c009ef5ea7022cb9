use Rattle.codec_source.specs.Events.{ends, to_end}
use Rattle.ber_source.specs.Seen.{state_of}
use Rattle.ber_source.specs.Log.{logged}
use Rattle.ber_source.specs.proving.Taken.{takes, never, left_as}
use Rattle.ber_source.proofs.cursor.ViewerSource.end.Goals as goal

pub returns-clause-ok : goal.returns-clause-ok
returns-clause-ok c =
    takes c.lemma_one_answer.ensures.takes c.end.result (state_of (λ t. logged t.log) c.self.inside.place) c.args.self.now (state_of (λ t. logged t.log) c.end.new.place) (ends) c.self.view_is c.end.ensures.ok

pub returns-clause-err : goal.returns-clause-err
returns-clause-err c = never c.end.result (state_of (λ t. logged t.log) c.self.inside.place) c.args.self.now (ends) c.self.view_is c.end.ensures.err

pub returns-clause-left : goal.returns-clause-left
returns-clause-left c = left_as c.end.result (state_of (λ t. logged t.log) c.self.inside.place) c.args.self.now (state_of (λ t. logged t.log) c.end.new.place) to_end c.self.view_is c.end.ensures.left
