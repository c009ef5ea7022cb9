use Rattle.codec_source.specs.Events.{closes, to_close}
use Rattle.ber_source.specs.Seen.{state_of}
use Rattle.ber_source.specs.Log.{logged}
use Rattle.ber_source.specs.proving.Taken.{takes, never, left_as}
use Rattle.ber_source.proofs.cursor.ViewerSource.close.Goals as goal

pub returns-clause-ok : goal.returns-clause-ok
returns-clause-ok c =
    takes c.lemma_one_answer.ensures.takes c.close.result (state_of (λ t. logged t.log) c.self.inside.place) c.args.self.now (state_of (λ t. logged t.log) c.close.new.place) (closes) c.self.view_is c.close.ensures.ok

pub returns-clause-err : goal.returns-clause-err
returns-clause-err c = never c.close.result (state_of (λ t. logged t.log) c.self.inside.place) c.args.self.now (closes) c.self.view_is c.close.ensures.err

pub returns-clause-left : goal.returns-clause-left
returns-clause-left c = left_as c.close.result (state_of (λ t. logged t.log) c.self.inside.place) c.args.self.now (state_of (λ t. logged t.log) c.close.new.place) to_close c.self.view_is c.close.ensures.left
