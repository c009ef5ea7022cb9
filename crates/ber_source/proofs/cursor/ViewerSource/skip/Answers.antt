use Rattle.codec_source.specs.Events.{skips, to_skip}
use Rattle.ber_source.specs.Seen.{state_of}
use Rattle.ber_source.specs.Log.{logged}
use Rattle.ber_source.specs.proving.Taken.{takes, never, left_as}
use Rattle.ber_source.proofs.cursor.ViewerSource.skip.Goals as goal

pub returns-clause-ok : goal.returns-clause-ok
returns-clause-ok c =
    takes c.lemma_one_answer.ensures.takes c.skip.result (state_of (λ t. logged t.log) c.self.inside.place) c.args.self.now (state_of (λ t. logged t.log) c.skip.new.place) (skips) c.self.view_is c.skip.ensures.ok

pub returns-clause-err : goal.returns-clause-err
returns-clause-err c = never c.skip.result (state_of (λ t. logged t.log) c.self.inside.place) c.args.self.now (skips) c.self.view_is c.skip.ensures.err

pub returns-clause-left : goal.returns-clause-left
returns-clause-left c = left_as c.skip.result (state_of (λ t. logged t.log) c.self.inside.place) c.args.self.now (state_of (λ t. logged t.log) c.skip.new.place) to_skip c.self.view_is c.skip.ensures.left
