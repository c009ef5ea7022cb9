use Rattle.codec_source.specs.Events.{begins, to_begin}
use Rattle.ber_source.specs.Seen.{state_of}
use Rattle.ber_source.specs.Log.{logged}
use Rattle.ber_source.specs.proving.Taken.{takes, never, left_as}
use Rattle.ber_source.proofs.cursor.ViewerSource.begin.Goals as goal

pub returns-clause-ok : goal.returns-clause-ok
returns-clause-ok c =
    takes c.lemma_one_answer.ensures.takes c.begin.result (state_of (λ t. logged t.log) c.self.inside.place) c.args.self.now (state_of (λ t. logged t.log) c.begin.new.place) (begins c.args.id) c.self.view_is c.begin.ensures.ok

pub returns-clause-err : goal.returns-clause-err
returns-clause-err c = never c.begin.result (state_of (λ t. logged t.log) c.self.inside.place) c.args.self.now (begins c.args.id) c.self.view_is c.begin.ensures.err

pub returns-clause-left : goal.returns-clause-left
returns-clause-left c = left_as c.begin.result (state_of (λ t. logged t.log) c.self.inside.place) c.args.self.now (state_of (λ t. logged t.log) c.begin.new.place) (to_begin c.args.id) c.self.view_is c.begin.ensures.left
