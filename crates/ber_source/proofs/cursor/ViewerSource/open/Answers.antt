use Rattle.codec_source.specs.Events.{opens, to_open}
use Rattle.ber_source.specs.Seen.{state_of}
use Rattle.ber_source.specs.Log.{logged}
use Rattle.ber_source.specs.proving.Taken.{takes, never, left_as}
use Rattle.ber_source.proofs.cursor.ViewerSource.open.Goals as goal

pub returns-clause-ok : goal.returns-clause-ok
returns-clause-ok c =
    takes c.lemma_one_answer.ensures.takes c.open.result (state_of (λ t. logged t.log) c.self.inside.place) c.args.self.now (state_of (λ t. logged t.log) c.open.new.place) (opens c.args.head) c.self.view_is c.open.ensures.ok

pub returns-clause-err : goal.returns-clause-err
returns-clause-err c = never c.open.result (state_of (λ t. logged t.log) c.self.inside.place) c.args.self.now (opens c.args.head) c.self.view_is c.open.ensures.err

pub returns-clause-left : goal.returns-clause-left
returns-clause-left c = left_as c.open.result (state_of (λ t. logged t.log) c.self.inside.place) c.args.self.now (state_of (λ t. logged t.log) c.open.new.place) (to_open c.args.head) c.self.view_is c.open.ensures.left
